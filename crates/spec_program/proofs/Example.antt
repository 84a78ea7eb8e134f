-- The program's printed example holds of the definition.
-- Assumes nothing.
use mathlib.Core.Path.{◌≡◌, refl}
use Rattle.spec_range.specs.Fold.{fold}
use Rattle.spec_range.specs.Table.{table}
use Rattle.spec_field.specs.Symbols.{polynomial, times_x, shift_add, product, first, inverse}
use Rattle.spec_word.specs.Word as W
use Rattle.spec_word.specs.Division.{before, all_zero, reduce, remainder, divides}
use Rattle.spec_word.specs.CyclicCode.{unity}
use Rattle.spec_book.specs.Layout.{width, degree_of, book_of}
use Rattle.spec_book.specs.Conditions.{length_fits, length_ok, kinds_ok, sizes_ok, body_ok, symbols_ok, generator_ok, limits_ok, dual_ok, duals_ok, distinct_ok, book_refusal, refusal}
use Rattle.spec_book.specs.Conditions.{input_ok, input_refusal}
use Rattle.spec_decoding.specs.Matrix.{check_sum, check_value, dual_entry, entry_of, matrix_of, cell}
use Rattle.spec_decoding.specs.Decode.{peak, zero_count, peak_count, holders, in_update_set, correction, empty_update_set, corrected, run, decode_with}
use Rattle.spec_operations.specs.Decoding.{decode_input_refusal, decode_refusal}
use Rattle.spec_program.specs.Line.{glyph, decimal_of, hex_of, answer_line}
use Rattle.spec_program.specs.Output.{word_line, lines_of, text_of, opening_refusal, output}
use Rattle.spec_program.specs.Example.{example_input, example_output}

pub example : output example_input ≡ example_output
unfolding fold table polynomial times_x shift_add product first inverse W.at W.distance W.weight W.product before all_zero reduce remainder divides unity width degree_of book_of length_fits length_ok kinds_ok sizes_ok body_ok symbols_ok generator_ok limits_ok dual_ok duals_ok distinct_ok book_refusal refusal input_ok input_refusal check_sum check_value dual_entry entry_of matrix_of cell peak zero_count peak_count holders in_update_set correction empty_update_set corrected run decode_with decode_input_refusal decode_refusal glyph decimal_of hex_of answer_line word_line lines_of text_of opening_refusal output
example = refl
