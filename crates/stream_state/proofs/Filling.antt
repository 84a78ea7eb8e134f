-- Bytes that join a part, one after another.
-- Assumes nothing.
use mathlib.Core.Path.{◌≡◌, refl, sym, ap, ◌∙◌}
use mathlib.Core.List.{List, [], ◌∷◌, ◌++◌, append_assoc, append-nil}
use Prim.Native.Nat.{ℕ, suc, ◌+◌, ◌<◌}
use native.Mathlib.Nat.{add-zero}
use native.Mathlib.Numerals.{add-one}
use native.Mathlib.Omega.{arith}
use lib.ListN.{length, take, get_or, set, length-set}
use lib.Seq.{take-suc, take-suc-set}
use Rattle.stream_state.specs.Part.{Joined}

pub joined_none : (part : List ℕ) (have : ℕ) (bytes : List ℕ) → Joined part have bytes part 0
joined_none part have bytes =
    record { kept = refl; within = omega arith; holds = ap (λ (n : ℕ). take n part) (add-zero have) ∙ sym (append-nil (take have part)) }

-- one byte more
pub joined_more : {part₀ bytes part : List ℕ} {have k : ℕ} → Joined part₀ have bytes part k → have + k < length part → k < length bytes
    → Joined part₀ have bytes (set part (have + k) (get_or bytes k 0)) (k + 1)
joined_more {part₀} {bytes} {part} {have} {k} j fits l =
    let x = get_or bytes k 0 in
    let next : have + (k + 1) ≡ suc (have + k) = omega arith in
    record {
      kept = length-set part (have + k) x ∙ j.kept;
      within = omega arith;
      holds =
          ap (λ (n : ℕ). take n (set part (have + k) x)) next
          ∙ take-suc-set part (have + k) x fits
          ∙ ap (λ (l : List ℕ). l ++ (x ∷ [])) j.holds
          ∙ append_assoc (take have part₀) (take k bytes) (x ∷ [])
          ∙ ap (λ (l : List ℕ). take have part₀ ++ l) (sym (take-suc bytes k 0 l) ∙ ap (λ (n : ℕ). take n bytes) (sym (add-one k)));
    }
