-- `book::open_readable` meets its contract: each value was read where the book has it, and the table is that of the generator.
-- Assumes nothing.
use mathlib.Core.Path.{refl, sym}
use native.Mathlib.Omega.{arith}
use Rattle.std.proofs.lemmas.Result.{err_from_is_err_and}
use Rattle.refusal.proofs.Numbers.{number_positive}
use Rattle.spec_book.proofs.Accepting.{sizes}
use Rattle.book.specs.Opened.{Gathered}
use Rattle.book.proofs.Reading.{read_of, read_sizes, read_spanned, generator_symbol}
use Rattle.book.proofs.Gathering.{gathered, number_is, described}
use Rattle.book.proofs.open_readable.Goals as goal

pub word_length-n-requires : goal.word_length-n-requires
word_length-n-requires c = (sizes _ c.requires.0.sizes).s_high

pub tabulate-requires : goal.tabulate-requires
tabulate-requires c =
    let r = read_of c.requires.0 c.word_length-n.ensures.0 in (
      read_sizes r,
      omega (arith, read_spanned r, r.sized.whole.size, r.sized.whole.count_low),
      generator_symbol r,
      rw r.sized.n_is c.requires.1,
    )

pub degree-requires : goal.degree-requires
degree-requires c =
    let r = read_of c.requires.0 c.word_length-n.ensures.0 in
    (r.sized.n_low, r.sized.n_high, omega (arith, r.sized.n_high, r.sized.whole.size))

pub refusal-requires : goal.refusal-requires
refusal-requires c =
    gathered c.requires.0 refl c.word_length-n.ensures.0 c.tabulate.ensures c.degree.ensures.0 c.record-limits.ensures.0 refl c.from.ensures
    c.dual_count.ensures.0

pub returns-in_err-refusal : goal.returns-in_err-refusal
returns-in_err-refusal c =
    let p = err_from_is_err_and c.from_residual.result c.from_residual.ensures.1 in
    rw (p.1, p.2) ((number_is _ c.requires.0 c.in_err-refusal.ensures, number_positive _), c.tabulate.ensures.long)

pub returns : goal.returns
returns c =
    let h : Gathered c.args.book.now _ c.tabulate.new.t =
    gathered c.requires.0 refl c.word_length-n.ensures.0 c.tabulate.ensures c.degree.ensures.0 c.record-limits.ensures.0 refl c.from.ensures
    c.dual_count.ensures.0
    in
    ((described _ c.requires.0 refl h (sym c.in_ok-refusal.ensures), h.table), c.tabulate.ensures.long)
