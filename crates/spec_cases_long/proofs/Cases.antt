-- That book E is accepted, and its cases, proved of the definitions.
-- Assumes nothing.
use mathlib.Core.Path.{refl}
use Rattle.spec_range.specs.Fold.{fold}
use Rattle.spec_range.specs.Table.{table}
use Rattle.spec_field.specs.Symbols.{polynomial, times_x, shift_add, product, first, inverse}
use Rattle.spec_word.specs.Word as W
use Rattle.spec_word.specs.Division.{before, all_zero, reduce, remainder, divides}
use Rattle.spec_word.specs.CyclicCode.{unity}
use Rattle.spec_book.specs.Layout.{width, degree_of, book_of}
use Rattle.spec_book.specs.Conditions.{length_fits, length_ok, kinds_ok, sizes_ok, body_ok, symbols_ok, generator_ok, limits_ok, dual_ok, duals_ok, distinct_ok, book_refusal, refusal}
use Rattle.spec_coding.specs.Coder.{encode}
use Rattle.spec_decoding.specs.Matrix.{check_sum, check_value, dual_entry, entry_of, matrix_of, cell}
use Rattle.spec_decoding.specs.Decode.{peak, zero_count, peak_count, holders, in_update_set, correction, empty_update_set, corrected, run, decode_with}
use Rattle.spec_cases.specs.Cases.{checks, codes, decodes, AllHold, none, ◌also◌}
use Rattle.spec_cases_long.specs.Cases.{decodes_damaged, long_accepted, long_cases}

pub long_accepted_lem : AllHold long_accepted
unfolding checks fold table polynomial times_x shift_add product W.weight W.product before all_zero reduce remainder divides unity width degree_of book_of length_fits length_ok kinds_ok sizes_ok body_ok symbols_ok generator_ok limits_ok dual_ok duals_ok distinct_ok book_refusal refusal
long_accepted_lem = refl also none

pub long_cases_hold : AllHold long_cases
unfolding codes decodes decodes_damaged fold table polynomial times_x shift_add product first inverse W.at W.distance W.product before all_zero reduce remainder divides width degree_of book_of encode check_sum check_value dual_entry entry_of matrix_of cell peak zero_count peak_count holders in_update_set correction empty_update_set corrected run decode_with
long_cases_hold = refl also refl also none
