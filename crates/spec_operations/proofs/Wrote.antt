-- The two ways in which a call ends, and what is left in a buffer.
-- Assumes nothing.
use mathlib.Core.Path.{◌≡◌, refl, sym, ap, ◌∙◌, subst}
use mathlib.Core.List.{List, []}
use Prim.Native.Nat.{ℕ, zero, suc}
use Rattle.spec_field.specs.Answer.{Answer, answer, done, refused, or_else, left}
use Rattle.spec_field.proofs.Refusals.{found_next, answers_refused}
use Rattle.spec_operations.specs.Wrote.{Wrote}

-- a buffer after a refusal, and after none
pub left_refused : (n number : ℕ) (new old : List ℕ) → n ≡ number → (n ≡ 0 → ⊥) → old ≡ left number new old
left_refused n zero new old e h = absurd (h e)
left_refused n (suc number) new old e h = refl

pub left_done : (number : ℕ) (new old : List ℕ) {out : List ℕ} → number ≡ 0 → out ≡ new → out ≡ left number new old
left_done number new old z e = e ∙ ap (λ (n : ℕ). left n new old) (sym z)

-- the number n was found, and the buffer is as it was
pub wrote_refused : {n number : ℕ} {new old : List ℕ} → n ≡ number → (n ≡ 0 → ⊥) → Wrote number new old (refused n) old
wrote_refused {n} {number} {new} {old} e h =
    record { says = answers_refused n number [] e h; buffer = left_refused n number new old e h }

-- nothing was refused, and the buffer is written
pub wrote_made : {number : ℕ} {new old out : List ℕ} → number ≡ 0 → out ≡ new → Wrote number new old (done []) out
wrote_made {number} {new} {old} z e = record { says = ap (λ (n : ℕ). answer n []) (sym z); buffer = left_done number new old z e }

-- a whole call whose book was not refused, n being the number that was found for it, goes on with its own numbers
pub goes_on : {n first number : ℕ} {new old out : List ℕ} {a : Answer} → n ≡ first → n ≡ 0 → Wrote number new old a out → Wrote (or_else first number) new old a out
goes_on {n} {first} {number} {new} {old} {out} {a} e z h = subst (λ (k : ℕ). Wrote k new old a out) (found_next n first number e z) h

-- what a call that was not refused has answered and left
module _ {number : ℕ} {new old out : List ℕ} (z : number ≡ 0) where
  pub wrote_new : {a : Answer} → Wrote number new old a out → out ≡ new
  wrote_new h = h.buffer ∙ ap (λ (n : ℕ). left n new old) z

  pub wrote_done : {a : Answer} → Wrote number new old a out → a ≡ done []
  wrote_done h = h.says ∙ ap (λ (n : ℕ). answer n []) z
