-- Mixing and unmixing undo each other; how long joined lists are, and where each of them stands.
-- Assumes nothing.
use mathlib.Core.Path.{◌≡◌, refl, sym, ap, ap₂, ◌∙◌, subst}
use mathlib.Core.List.{List, ◌++◌}
use mathlib.Core.Logic.{◌⊎◌, inl, inr}
use Prim.Native.Nat.{ℕ, zero, suc, ◌+◌, ◌*◌, ◌/◌, ◌%◌, ◌≤◌, ◌<◌}
use native.Mathlib.Nat.{le_step, le_refl, eq-or-lt_of_le, le_of_suc-le-suc, not-suc-le-zero, mul-zero, mul_comm, mod-lt, zero-lt-suc, div-add-mod', div-lt_iff_lt-mul}
use native.Mathlib.Omega.{arith}
use lib.Arith.{digits_lt, digits_div, digits_mod}
use lib.ListN.{length, get_or, take, drop, length-drop, length-append, get_or-append}
use lib.Seq.{ext_get_or, get_or-append-add, get_or-take, get_or-drop, length-take-le}
use Rattle.spec_range.proofs.Table.{table-length, table_at}
use Rattle.spec_word.specs.Mixed.{mixed, unmixed, joined, part}

-- ---- mixing and unmixing

pos_of_mul : (n count : ℕ) → 0 < n * count → 0 < count
pos_of_mul n zero h = absurd (not-suc-le-zero (subst (λ (a : ℕ). 0 < a) (mul-zero n) h))
pos_of_mul n (suc count) h = zero-lt-suc count

pub unmixed-length : (n count : ℕ) (x : List ℕ) (m : ℕ) → length (unmixed n count x m) ≡ n
unfolding unmixed
unmixed-length n count x m = table-length n _

pub unmixed-at : (n count : ℕ) (x : List ℕ) (m : ℕ) {j : ℕ} → j < n → get_or (unmixed n count x m) j 0 ≡ get_or x (j * count + m) 0
unfolding unmixed
unmixed-at n count x m l = table_at n _ l

mixed-at : (n count : ℕ) (words : ℕ → List ℕ) {j m : ℕ} → j < n → m < count → get_or (mixed n count words) (j * count + m) 0 ≡ get_or (words m) j 0
unfolding mixed
mixed-at n count words {j} {m} l h =
    table_at (n * count) _ (digits_lt l h) ∙ ap₂ (λ (a b : ℕ). get_or (words a) b 0) (digits_mod j h) (digits_div j h)

-- each word is had again from the mixed ones
pub unmixed-mixed : (n count : ℕ) (words : ℕ → List ℕ) {m : ℕ} → m < count → length (words m) ≡ n → unmixed n count (mixed n count words) m ≡ words m
unmixed-mixed n count words {m} h e =
    ext_get_or 0 (unmixed n count (mixed n count words) m) (words m) (unmixed-length n count (mixed n count words) m ∙ sym e) (λ j l.
    let below = subst (λ (k : ℕ). j < k) (unmixed-length n count (mixed n count words) m) l in
    unmixed-at n count (mixed n count words) m below ∙ mixed-at n count words below h)

pub mixed-length : (n count : ℕ) (words : ℕ → List ℕ) → length (mixed n count words) ≡ n * count
unfolding mixed
mixed-length n count words = table-length (n * count) _

-- place k is in some word, at some place of it
row_below : (n count k : ℕ) → k < n * count → k / count < n
row_below n count k below = (div-lt_iff_lt-mul (pos_of_mul n count (omega arith))).1 below

word_below : (n count k : ℕ) → k < n * count → k % count < count
word_below n count k below = mod-lt k (pos_of_mul n count (omega arith))

-- symbols stay symbols
pub mixed_symbol : (n count q : ℕ) (words : ℕ → List ℕ) → ((m : ℕ) → m < count → (j : ℕ) → j < n → get_or (words m) j 0 < q)
    → (k : ℕ) → k < n * count → get_or (mixed n count words) k 0 < q
unfolding mixed
mixed_symbol n count q words h k below =
    subst (λ (a : ℕ). a < q) (sym (table_at (n * count) _ below)) (h (k % count) (word_below n count k below) (k / count) (row_below n count k below))

-- and every burst is one of mixed words
pub mixed-unmixed : (n count : ℕ) (x : List ℕ) → length x ≡ n * count → mixed n count (unmixed n count x) ≡ x
unfolding mixed
mixed-unmixed n count x e =
    ext_get_or 0 (mixed n count (unmixed n count x)) x (mixed-length n count (unmixed n count x) ∙ sym e) (λ k l.
    let below : k < n * count = subst (λ (a : ℕ). k < a) (mixed-length n count (unmixed n count x)) l in
    table_at (n * count) _ below ∙ unmixed-at n count x (k % count) (row_below n count k below) ∙ ap (λ (a : ℕ). get_or x a 0) (div-add-mod' k count))

-- ---- lists one after another

pub joined_same : (count : ℕ) {f g : ℕ → List ℕ} → ((i : ℕ) → i < count → f i ≡ g i) → joined count f ≡ joined count g
unfolding joined
joined_same zero h = refl
joined_same (suc count) h = ap₂ ◌++◌ (joined_same count (λ i l. h i (le_step l))) (h count (le_refl (suc count)))

pub joined_length : (n count : ℕ) (f : ℕ → List ℕ) → ((i : ℕ) → i < count → length (f i) ≡ n) → length (joined count f) ≡ count * n
unfolding joined
joined_length n zero f h = omega arith
joined_length n (suc count) f h =
    length-append (joined count f) (f count)
    ∙ ap₂ ◌+◌ (joined_length n count f (λ i l. h i (le_step l))) (h count (le_refl (suc count)))
    ∙ omega arith

-- place j of list i
pub joined_at : (n count : ℕ) (f : ℕ → List ℕ) → ((i : ℕ) → i < count → length (f i) ≡ n) → {i j : ℕ} → i < count → j < n
    → get_or (joined count f) (i * n + j) 0 ≡ get_or (f i) j 0
unfolding joined
joined_at n zero f h {i} {j} l k = absurd (not-suc-le-zero l)
joined_at n (suc count) f h {i} {j} l k = go (eq-or-lt_of_le (le_of_suc-le-suc l)) (joined_at n count f below)
  where
    below : (i : ℕ) → i < count → length (f i) ≡ n
    below i l = h i (le_step l)

    long : length (joined count f) ≡ count * n
    long = joined_length n count f below

    go : (i ≡ count) ⊎ (i < count) → (i < count → j < n → get_or (joined count f) (i * n + j) 0 ≡ get_or (f i) j 0)
        → get_or (joined count f ++ f count) (i * n + j) 0 ≡ get_or (f i) j 0
    go (inl e) ih =
        ap (λ (a : ℕ). get_or (joined count f ++ f count) a 0) (ap (λ (a : ℕ). a * n + j) e ∙ ap (λ (a : ℕ). a + j) (sym long))
        ∙ get_or-append-add (joined count f) (f count) j 0
        ∙ ap (λ (a : ℕ). get_or (f a) j 0) (sym e)
    go (inr b) ih =
        get_or-append (joined count f) (f count) 0 (i * n + j) (subst (λ (a : ℕ). i * n + j < a) (sym long) (digits_lt b k))
        ∙ ih b k

-- each list is had again from the joined ones
pub part-joined : (n count : ℕ) (f : ℕ → List ℕ) → ((i : ℕ) → i < count → length (f i) ≡ n) → {i : ℕ} → i < count → part n (joined count f) i ≡ f i
unfolding part
part-joined n count f h {i} l =
    ext_get_or 0 (part n (joined count f) i) (f i) (table-length n _ ∙ sym (h i l)) (λ j b.
    let below : j < n = subst (λ (k : ℕ). j < k) (table-length n _) b in
    table_at n _ below ∙ joined_at n count f h l below)

-- ---- a list in parts

pub part_length : (n : ℕ) (x : List ℕ) (i : ℕ) → length (part n x i) ≡ n
unfolding part
part_length n x i = table-length n _

pub part_at : (n : ℕ) (x : List ℕ) (i : ℕ) {j : ℕ} → j < n → get_or (part n x i) j 0 ≡ get_or x (i * n + j) 0
unfolding part
part_at n x i l = table_at n _ l

-- the list is had again from its parts
pub joined_parts : (n count : ℕ) (x : List ℕ) → length x ≡ n * count → joined count (part n x) ≡ x
joined_parts n count x e =
    ext_get_or 0 (joined count (part n x)) x (long ∙ mul_comm count n ∙ sym e) (λ k l.
    let below : k < count * n = subst (λ (a : ℕ). k < a) long l in
    ap (λ (a : ℕ). get_or (joined count (part n x)) a 0) (sym (div-add-mod' k n))
    ∙ joined_at n count (part n x) (λ i _. part_length n x i) (row_below count n k below) (word_below count n k below)
    ∙ part_at n x (k / n) (word_below count n k below) ∙ ap (λ (a : ℕ). get_or x a 0) (div-add-mod' k n))
  where
    long : length (joined count (part n x)) ≡ count * n
    long = joined_length n count (part n x) (λ i _. part_length n x i)

-- a part is what stands there
pub part_taken : (n : ℕ) (x : List ℕ) (i : ℕ) → i * n + n ≤ length x → take n (drop (i * n) x) ≡ part n x i
part_taken n x i h =
    ext_get_or 0 (take n (drop (i * n) x)) (part n x i) (long ∙ sym (part_length n x i)) (λ j l.
    let below : j < n = subst (λ (k : ℕ). j < k) long l in
    get_or-take n (drop (i * n) x) j 0 below ∙ get_or-drop (i * n) x j 0 ∙ sym (part_at n x i below))
  where
    long : length (take n (drop (i * n) x)) ≡ n
    long = length-take-le n (drop (i * n) x) (omega (arith, length-drop (i * n) x))
