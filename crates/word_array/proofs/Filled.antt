-- An array that holds a function's values below place n: filled by a loop, place by place or part by part, all zeros, and read.
-- Assumes nothing.
use mathlib.Core.Path.{◌≡◌, refl, sym, ap, ◌∙◌, subst}
use mathlib.Core.List.{List, ◌++◌}
use Prim.Native.Nat.{ℕ, ◌+◌, ◌-◌, ◌≤◌, ◌<◌}
use native.Mathlib.Decide.{dec_lt}
use native.Mathlib.Omega.{arith}
use lib.ListN.{length, get_or, take, replicate, length-replicate, get_or-append, get_or-eq_default}
use lib.Seq.{ext_get_or, get_or-take, get_or-drop, length-take-le, drop_at}
use borrow.Rule.Slice.PartMut.{put_mid, post_of, same_len_mid, mid_len, take_put, drop_put}
use Rattle.spec_range.specs.Table.{table, padded}
use Rattle.spec_range.proofs.Table.{table-length, table_at}
use Rattle.word_array.specs.Stored.{place}
use Rattle.spec_range.proofs.Loop.{Held, Over, held_padded, over_none, zero_at, padded-length, padded-at, padded-reads}

pub held_end : {size n j : ℕ} {f : ℕ → ℕ} {w : List ℕ} → j ≡ n → Held size j f w → w ≡ padded size n f
held_end {size} {f = f} {w = w} e h = held_padded (subst (λ (k : ℕ). Held size k f w) e h)

-- nothing stands from place n on
pub padded_past : (size n : ℕ) (f : ℕ → ℕ) → n ≤ size → (k : ℕ) → n ≤ k → get_or (padded size n f) k 0 ≡ 0
padded_past size n f h k l = padded-reads size n f h k ∙ get_or-eq_default (table n f) 0 (omega (arith, table-length n f))

pub padded_held : {size n : ℕ} {f : ℕ → ℕ} {w : List ℕ} → n ≤ size → w ≡ padded size n f → Held size n f w
padded_held {size} {n} {f} l e =
    rw e (record { long = padded-length size n f; at = λ k b. padded-at size n f l b; rest = padded_past size n f l })

-- zeros that are written over from the front
pub over_held : {size n : ℕ} {f : ℕ → ℕ} {w : List ℕ} → Over n f (replicate size 0) w → Held size n f w
over_held {size} h = record { long = h.long ∙ length-replicate size 0; at = h.at; rest = λ k l. h.rest k l ∙ zero_at size k }

-- the m places from `at` to `end` are written over as one part
pub over_part : {at m end n : ℕ} {f g : ℕ → ℕ} {w₀ w v : List ℕ} → end ≡ at + m → n ≡ end → end ≤ length w → v ≡ table m g
    → ((k : ℕ) → k < m → g k ≡ f (at + k)) → Over at f w₀ w → Over n f w₀ (put_mid at (end - at) w v)
over_part {at} {m} {end} {n} {f} {g} {w₀} {w} {v} e is l q s h =
    record { long = same_len_mid at (end - at) w v (omega (arith, many, mid_len at end w l)) ∙ h.long; at = λ k b. filled k b (dec_lt k at); rest = after }
  where
    whole : List ℕ
    whole = put_mid at (end - at) w v

    many : length v ≡ m
    many = ap length q ∙ table-length m g

    filled : (k : ℕ) → k < n → Dec (k < at) → get_or whole k 0 ≡ f k
    filled k b (yes d) =
        sym (get_or-take at whole k 0 d) ∙ ap (λ (u : List ℕ). get_or u k 0) (take_put at (end - at) w v (omega arith)) ∙ get_or-take at w k 0 d
        ∙ h.at k d
    filled k b (no d) =
        ap (λ (i : ℕ). get_or whole i 0) (omega arith)
        ∙ sym (get_or-drop at whole (k - at) 0)
        ∙ ap (λ (u : List ℕ). get_or u (k - at) 0) (drop_at (take at w) (v ++ post_of at (end - at) w) at (length-take-le at w (omega arith)))
        ∙ get_or-append v (post_of at (end - at) w) 0 (k - at) (omega (arith, many))
        ∙ ap (λ (u : List ℕ). get_or u (k - at) 0) q ∙ table_at m g (omega arith) ∙ s (k - at) (omega arith) ∙ ap f (omega arith)

    after : (k : ℕ) → n ≤ k → get_or whole k 0 ≡ get_or w₀ k 0
    after k b =
        ap (λ (i : ℕ). get_or whole i 0) (omega arith)
        ∙ sym (get_or-drop end whole (k - end) 0)
        ∙ ap (λ (u : List ℕ). get_or u (k - end) 0) (drop_put at end w v (omega arith) l (omega (arith, many)))
        ∙ get_or-drop end w (k - end) 0
        ∙ ap (λ (i : ℕ). get_or w i 0) (omega arith)
        ∙ h.rest k (omega arith)

-- zeros of which the first m places are written over as one part
pub held_front : {size m : ℕ} {f : ℕ → ℕ} {v : List ℕ} → m ≤ size → v ≡ table m f → Held size m f (put_mid 0 (m - 0) (replicate size 0) v)
held_front {size} {m} {f} l e =
    over_held
    (over_part {m = m} (omega arith) refl (omega (arith, length-replicate {A = ℕ} size 0)) e (λ k b. ap f (omega arith)) (over_none f (replicate size 0)))

pub zero_padded : (size n : ℕ) (f : ℕ → ℕ) → ((k : ℕ) → k < n → f k ≡ 0) → replicate size 0 ≡ padded size n f
zero_padded size n f z =
    held_padded (record { long = length-replicate size 0; at = λ k l. zero_at size k ∙ sym (z k l); rest = λ k l. zero_at size k })

pub read_padded : {size n : ℕ} (f : ℕ → ℕ) {w : List ℕ} → w ≡ padded size n f → n ≤ size → {k : ℕ} → k < n → get_or w k 0 ≡ f k
read_padded {size} {n} f e h {k} l = ap (λ (v : List ℕ). get_or v k 0) e ∙ padded-at size n f h l

-- the first n places of a list, as a table of them
pub part_table : (n : ℕ) (w : List ℕ) → n ≤ length w → take n w ≡ table n (place w)
part_table n w l =
    ext_get_or 0 (take n w) (table n (place w)) (length-take-le n w l ∙ sym (table-length n (place w))) (λ j b.
    let below = subst (λ (k : ℕ). j < k) (length-take-le n w l) b in
    get_or-take n w j 0 below ∙ sym (table_at n (place w) below))
