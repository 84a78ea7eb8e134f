-- How two runs of bytes written in a row join.
-- Assumes nothing.
use mathlib.Core.Path.{◌≡◌, refl, sym, ap, ◌∙◌}
use mathlib.Core.List.{List, [], ◌∷◌, ◌++◌}
use Prim.Native.Nat.{ℕ, suc, ◌+◌}
use native.Mathlib.Nat.{add-zero, add-suc, suc-add, add_assoc}
use lib.ListN.{length, set, length-set, length-append}
use lib.Seq.{sets}
use Rattle.stream_text.specs.Printed.{written, Printed}

pub written_one : (l : List ℕ) (i a : ℕ) → set l i a ≡ written l i (a ∷ [])
unfolding written
written_one l i a = refl

sets_append : (l : List ℕ) (i : ℕ) (vs ws : List ℕ) → sets (sets l i vs) (i + length vs) ws ≡ sets l i (vs ++ ws)
sets_append l i [] ws = ap (λ (k : ℕ). sets l k ws) (add-zero i)
sets_append l i (v ∷ vs) ws =
    ap (λ (k : ℕ). sets (sets (set l i v) (suc i) vs) k ws) (add-suc i (length vs) ∙ sym (suc-add i (length vs)))
    ∙ sets_append (set l i v) (suc i) vs ws

-- two runs, one after the other, are one
pub written-append : (l : List ℕ) (i : ℕ) (vs ws : List ℕ) → written (written l i vs) (i + length vs) ws ≡ written l i (vs ++ ws)
unfolding written
written-append l i vs ws = sets_append l i vs ws

pub printed_one : (l : List ℕ) (i a : ℕ) → Printed l i (a ∷ []) (set l i a) (i + 1)
printed_one l i a = record { past = refl; holds = written_one l i a; kept = length-set l i a }

pub printed_none : (l : List ℕ) (i : ℕ) → Printed l i [] l i
unfolding written
printed_none l i = record { past = sym (add-zero i); holds = refl; kept = refl }

-- one run, and then another
pub printed_then : {l m n : List ℕ} {i j k : ℕ} {vs ws : List ℕ} → Printed l i vs m j → Printed m j ws n k → Printed l i (vs ++ ws) n k
printed_then {l} {m} {n} {i} {j} {k} {vs} {ws} a b =
    record {
      past = b.past ∙ ap (λ (t : ℕ). t + length ws) a.past ∙ add_assoc i (length vs) (length ws) ∙ ap (λ (t : ℕ). i + t) (sym (length-append vs ws));
      holds = b.holds ∙ rw (a.holds, a.past) (written-append l i vs ws);
      kept = b.kept ∙ a.kept;
    }
