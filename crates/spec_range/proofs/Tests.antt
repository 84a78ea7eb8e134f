-- Tests as facts: two tests that pass under the same conditions are equal.
-- Assumes nothing.
use mathlib.Core.Path.{◌≡◌, refl, sym, subst}
use mathlib.Core.Bool.{Bool, true, false, not, cond, ◌&&◌, ◌||◌}
use Prim.Native.Nat.{ℕ}
use lib.Dec.{T, eqb, eqb→eq, eqb_refl}

pub same_test : (a b : Bool) → (T a → T b) → (T b → T a) → a ≡ b
same_test true true f g = refl
same_test true false f g = absurd (f tt)
same_test false true f g = absurd (g tt)
same_test false false f g = refl

pub eq→eqb : {a b : ℕ} → a ≡ b → T (eqb a b)
eq→eqb {a} p = subst (λ (x : ℕ). T (eqb a x)) p (eqb_refl a)

pub same_eqb : {a b c d : ℕ} → (a ≡ b → c ≡ d) → (c ≡ d → a ≡ b) → eqb a b ≡ eqb c d
same_eqb {a} {b} {c} {d} f g = same_test (eqb a b) (eqb c d) (λ t. eq→eqb (f (eqb→eq a b t))) (λ t. eq→eqb (g (eqb→eq c d t)))

pub and_left : (a b : Bool) → T (a && b) → T a
and_left true b t = tt
and_left false b t = t

pub and_right : (a b : Bool) → T (a && b) → T b
and_right true b t = t
and_right false b t = absurd t

pub and_both : (a b : Bool) → T a → T b → T (a && b)
and_both true b s t = t
and_both false b s t = s

pub or_not_left : (a b : Bool) → (T a → ⊥) → T (a || b) → T b
or_not_left true b h t = absurd (h tt)
or_not_left false b h t = t

pub not_of : (b : Bool) → (T b → ⊥) → T (not b)
not_of true h = h tt
not_of false h = tt

pub not_at : (b : Bool) → T (not b) → T b → ⊥
not_at true s t = s
not_at false s t = t

pub not_not : (b : Bool) → not (not b) ≡ b
not_not true = refl
not_not false = refl

pub true_test : (b : Bool) → b ≡ true → T b
true_test b e = subst T (sym e) tt

pub test_true : (b : Bool) → T b → b ≡ true
test_true true t = refl
test_true false t = absurd t

pub test_false : (b : Bool) → (T b → ⊥) → b ≡ false
test_false true h = absurd (h tt)
test_false false h = refl

-- a choice whose test passes, or fails
pub cond_true : {A : Type 0} (b : Bool) (x y : A) → T b → cond b x y ≡ x
cond_true true x y t = refl
cond_true false x y t = absurd t

pub cond_false : {A : Type 0} (b : Bool) (x y : A) → (T b → ⊥) → cond b x y ≡ y
cond_false true x y h = absurd (h tt)
cond_false false x y h = refl
