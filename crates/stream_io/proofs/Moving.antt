-- A front of a text that grows as it is written, and a front of a piece that grows as it is read.
-- Assumes nothing.
use Rattle.std.proofs.Common.{◌≡◌, ℕ, ◌+◌, ◌-◌, ◌≤◌, List, ◌++◌, length, take, drop, sym, ap, ◌∙◌, subst, le_refl, drop_at, length-take-le}
use Rattle.std.proofs.lemmas.Slice.{take-put_mid_below}
use Rattle.std.specs.declared.option.Option.{Option}
use Rattle.std.specs.Io.KnownBytes.{Appends, Consumes}
use Rattle.std.proofs.KnownBytes.{Appends-trans, Consumes-trans}
use borrow.Rule.Slice.PartMut.{put_mid, post_of}
use Rattle.std.proofs.Math.Seq.{take-add}
use Rattle.std.proofs.lemmas.List.{take-append-le, take_rest}

-- n bytes more were written
pub appends_more : (a b c : Option (List ℕ)) (text : List ℕ) (i n : ℕ) → Appends a b (take i text) → Appends b c (take n (take (length text - i) (drop i text)))
    → Appends a c (take (i + n) text)
appends_more a b c text i n p q =
    let joined : take i text ++ take n (take (length text - i) (drop i text)) ≡ take (i + n) text
    = ap (λ l. take i text ++ take n l) (take_rest text i) ∙ sym (take-add i n text) in
    subst (Appends a c) joined (Appends-trans a b c _ _ p q)

module _ (i : ℕ) (piece part : List ℕ) (within : i ≤ length piece) where
  -- the piece with `part` in place of what stood from i on
  abbrev after : List ℕ
  after = put_mid i (length piece - i) piece part

  front : take i after ≡ take i piece
  front = take-put_mid_below _ _ _ _ _ (le_refl i) within

  drop_after : drop i after ≡ part ++ post_of i (length piece - i) piece
  drop_after = drop_at (take i piece) (part ++ post_of i (length piece - i) piece) i (length-take-le i piece within)

  -- n bytes more were read
  pub consumes_more : (a b c : Option (List ℕ)) (n : ℕ) → n ≤ length part → Consumes a b (take i piece) → Consumes b c (take n part) → Consumes a c (take (i + n) after)
  consumes_more a b c n fits p q =
      let more : take n (drop i after) ≡ take n part = ap (take n) drop_after ∙ take-append-le n part (post_of i (length piece - i) piece) fits in
      let joined : take i piece ++ take n part ≡ take (i + n) after
      = ap (λ l. l ++ take n part) (sym front) ∙ ap (λ l. take i after ++ l) (sym more) ∙ sym (take-add i n after) in
      subst (Consumes a c) joined (Consumes-trans a b c _ _ p q)
