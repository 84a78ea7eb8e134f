-- What the probe's lengths tell, and what is written for them.
-- Assumes nothing.
use mathlib.Core.Path.{◌≡◌, sym, ap, ◌∙◌, subst}
use mathlib.Core.Bool.{Bool, true, false, cond, ◌&&◌}
use mathlib.Core.List.{List}
use Prim.Native.Nat.{ℕ, ◌≤◌}
use lib.Bits.{bit_xor}
use lib.Dec.{T, leb, eqb, leb→le, eqb→eq}
use lib.ListN.{length}
use Rattle.spec_range.specs.Table.{table, padded}
use Rattle.spec_range.proofs.Table.{table_same}
use Rattle.spec_range.proofs.Tests.{and_left, and_right}
use Rattle.spec_field.specs.Symbols.{gf}
use Rattle.spec_word.specs.Word.{plus}
use Rattle.word_array.specs.Stored.{place}
use Rattle.word_array.proofs.Filled.{read_padded}
use Rattle.word_array.proofs.Plus.{plus-at}
use Rattle.sum_probe.specs.Sum.{adds, sums}

pub lengths : (a b room : ℕ) → adds a b room ≡ true → (room ≤ 255) × (a ≡ room) × (b ≡ room)
unfolding adds
lengths a b room e =
    let t : T (leb room 255 && (eqb a room && eqb b room)) = subst T (sym e) tt in
    let r : T (eqb a room && eqb b room) = and_right (leb room 255) _ t in
    (leb→le room 255 (and_left (leb room 255) _ t), eqb→eq a room (and_left (eqb a room) _ r), eqb→eq b room (and_right (eqb a room) _ r))

pub refused : (a b out : List ℕ) → adds (length a) (length b) (length out) ≡ false → out ≡ sums a b out
unfolding sums
refused a b out e = sym (ap (λ (t : Bool). cond t (table (length out) (λ j. bit_xor (place a j) (place b j))) out) e)

pub written : (a b out : List ℕ) {w out' : List ℕ} → adds (length a) (length b) (length out) ≡ true
    → ((p : ℕ) → w ≡ padded 255 (length out) (place (plus (gf p) (length out) a b))) → out' ≡ table (length out) (place w) → out' ≡ sums a b out
unfolding sums
written a b out e add store =
    store ∙ table_same (length out) (λ k l. read_padded _ (add 1) (lengths _ _ _ e).0 l ∙ plus-at 1 (length out) a b l)
    ∙ sym (ap (λ (t : Bool). cond t (table (length out) (λ j. bit_xor (place a j) (place b j))) out) e)
