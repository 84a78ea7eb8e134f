-- `decode::decode_word` meets its contract.
-- Assumes nothing.
use mathlib.Core.Path.{◌≡◌, sym, ap, ◌∙◌}
use Prim.Native.Nat.{ℕ}
use native.Mathlib.Nat.{le_of_eq}
use native.Mathlib.Omega.{arith}
use borrow.Author.Rules.{rules}
use lib.ListN.{length}
use lib.Pow.{pow_pos}
use Rattle.std.proofs.lemmas.Result.{err_from_is_err_and}
use Rattle.spec_range.specs.Table.{table}
use Rattle.sizes.specs.Blocks.{stride}
use Rattle.sizes.proofs.Lengths.{blocks_fit}
use Rattle.word_array.specs.Stored.{place}
use Rattle.word_table.proofs.Rows.{rows_apart}
use Rattle.book.proofs.Described.{params_sizes}
use Rattle.decode.proofs.Answering.{decode_number, input-size, input-stored, input-listed, output_sizes, decodes_refused, decodes_done}
use Rattle.decode.proofs.decode_word.Goals as goal

pub returns : goal.returns
returns c =
    let d = c.requires.0 in
    let asked = c.in_ok-refusal.ensures in
    let sizes = output_sizes _ _ d c.args.received.now _ asked c.order.ensures c.exact-sized.ensures in (
      decodes_done _ _ d c.args.received.now (input-listed _ _ d c.args.received.now _ asked c.order.ensures) _ _ c.run-end.ensures.0 _
          (sym (decode_number _ _ d _ _ _ asked c.order.ensures c.exact-sized.ensures))
          (c.store.ensures ∙ ap (λ (k : ℕ). table k (place c.run-end.result.word)) sizes.0)
          c.distance-changed.ensures.0,
      c.run-end.ensures.1,
    )

pub exact-sized-requires : goal.exact-sized-requires
exact-sized-requires c = let s = params_sizes _ _ c.requires.0 in (s.p_high, s.n_high)

pub order-requires : goal.order-requires
order-requires c = (params_sizes _ _ c.requires.0).p_high

pub returns-in_err-refusal : goal.returns-in_err-refusal
returns-in_err-refusal c =
    let p = err_from_is_err_and c.from_residual.result c.from_residual.ensures.1 in
    rw (p.1, p.2)
    (decodes_refused _ _ _ (decode_number _ _ c.requires.0 _ _ _ c.in_err-refusal.ensures c.order.ensures c.exact-sized.ensures), c.requires.2)

pub run-end-requires : goal.run-end-requires
run-end-requires c =
    let h = c.requires in
    let asked = c.in_ok-refusal.ensures in
    record {
      describes = h.0;
      table_is = h.1;
      terms_room = h.2;
      long = le_of_eq (sym (input-size _ _ h.0 c.args.received.now _ asked c.order.ensures));
      word = input-stored _ _ h.0 c.args.received.now _ asked c.order.ensures;
      size = (output_sizes _ _ h.0 c.args.received.now _ asked c.order.ensures c.exact-sized.ensures).1;
    }

-- the word reached, the word received and the table all have n places to store: the answer says which one is stored
pub store-requires : goal.store-requires
store-requires c =
    let h = c.requires in
    let asked = c.in_ok-refusal.ensures in
    let s = params_sizes _ _ h.0 in
    -- the word is an array of 255 places, as the result of the call is well formed
    let long : length c.run-end.result.word ≡ 255 = search (rules, c.run-end.type_inv.1.1.1.1.0.1) in
    omega (
      arith,
      (output_sizes _ _ h.0 c.args.received.now _ asked c.order.ensures c.exact-sized.ensures).0,
      s.n_high,
      long,
      input-size _ _ h.0 c.args.received.now _ asked c.order.ensures,
      rows_apart (stride c.args.c.n) (pow_pos c.args.c.p),
      h.1.multiples.size,
      blocks_fit s.n_high,
    )

pub distance-changed-requires : goal.distance-changed-requires
distance-changed-requires c =
    let high = (params_sizes _ _ c.requires.0).n_high in
    let long : length c.run-end.result.word ≡ 255 = search (rules, c.run-end.type_inv.1.1.1.1.0.1) in
    let size = input-size _ _ c.requires.0 c.args.received.now _ c.in_ok-refusal.ensures c.order.ensures in
    (high, omega (arith, high, long, size), omega (arith, high, long, size))

pub overflow_cast-result : goal.overflow_cast-result
overflow_cast-result c = omega (arith, c.distance-changed.ensures.1, (params_sizes _ _ c.requires.0).n_high)
