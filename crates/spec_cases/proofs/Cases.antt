-- Cases 1 to 14, the remainders, the words that are alike, the short messages, the forms, the packed numbers, the bursts and the games, each list proved
-- together of the definitions, and that the books they use are accepted.
-- Assumes nothing.
use mathlib.Core.Path.{refl}
use Rattle.spec_range.specs.Fold.{fold}
use Rattle.spec_range.specs.Table.{table}
use Rattle.spec_field.specs.Symbols.{polynomial, times_x, shift_add, product, first, inverse}
use Rattle.spec_word.specs.Word as W
use Rattle.spec_word.specs.Division.{before, all_zero, reduce, remainder, quotient, divides}
use Rattle.spec_word.specs.CyclicCode.{unity}
use Rattle.spec_word.specs.Alike.{is_multiple_of_turn, alike}
use Rattle.spec_word.specs.Lanes.{lane, packed}
use Rattle.spec_word.specs.Mixed.{mixed, unmixed, joined}
use Rattle.spec_book.specs.Layout.{width, degree_of, book_of}
use Rattle.spec_book.specs.Conditions.{length_fits, length_ok, kinds_ok, sizes_ok, body_ok, symbols_ok, generator_ok, limits_ok, dual_ok, duals_ok, distinct_ok, book_refusal, refusal, words_ok, message_fits, input_ok, input_refusal}
use Rattle.spec_coding.specs.Coder.{encode, message}
use Rattle.spec_decoding.specs.Matrix.{check_sum, check_value, dual_entry, entry_of, matrix_of, cell}
use Rattle.spec_decoding.specs.Decode.{peak, zero_count, peak_count, holders, in_update_set, correction, empty_update_set, corrected, run, decode_with}
use Rattle.spec_decoding.specs.Symmetry.{move}
use Rattle.spec_operations.specs.Coding.{code_input_refusal, code_refusal}
use Rattle.spec_operations.specs.Burst.{burst_input_refusal, burst_refusal}
use Rattle.spec_operations.specs.Game.{game_input_refusal, game_refusal}
use Rattle.spec_cases.specs.Cases.{checks, codes, reads, declines, fills, decodes, holds, leaves, compares, bursts, burst_declines, games, game_declines, moved, packs, unpacks, cases, remainders, likenesses, shorts, forms, packings, burst_cases, game_cases, accepted, AllHold, none, ◌also◌}

pub cases_hold : AllHold cases
unfolding codes fills decodes holds moved fold table polynomial times_x shift_add product first inverse W.at W.distance W.turn W.product W.scale W.plus before all_zero reduce remainder divides width degree_of book_of encode check_sum check_value dual_entry entry_of matrix_of cell peak zero_count peak_count holders in_update_set correction empty_update_set corrected run decode_with move
cases_hold = refl also refl also refl also refl also refl also refl also refl also refl also refl also refl also refl also refl also refl also refl also refl also none

pub remainders_hold : AllHold remainders
unfolding leaves fold table polynomial times_x shift_add product W.at before reduce remainder width degree_of book_of
remainders_hold = refl also refl also refl also refl also refl also none

pub likenesses_hold : AllHold likenesses
unfolding compares checks fold table polynomial times_x shift_add product W.at W.weight W.product is_multiple_of_turn alike before all_zero reduce remainder divides unity width degree_of book_of length_fits length_ok kinds_ok sizes_ok body_ok symbols_ok generator_ok limits_ok dual_ok duals_ok distinct_ok book_refusal refusal
likenesses_hold = refl also refl also refl also refl also refl also refl also none

pub shorts_hold : AllHold shorts
unfolding codes reads declines fold table polynomial times_x shift_add product W.at W.weight W.product is_multiple_of_turn alike before all_zero reduce remainder quotient divides unity width degree_of book_of length_fits length_ok kinds_ok sizes_ok body_ok symbols_ok generator_ok limits_ok dual_ok duals_ok distinct_ok book_refusal refusal message_fits input_ok input_refusal encode message code_input_refusal code_refusal
shorts_hold = refl also refl also refl also refl also refl also refl also refl also refl also refl also refl also none

pub forms_hold : AllHold forms
unfolding checks fold width length_fits length_ok kinds_ok sizes_ok refusal
forms_hold = refl also refl also refl also refl also refl also refl also refl also refl also refl also refl also refl also refl also refl also refl also none

pub packings_hold : AllHold packings
unfolding packs unpacks fold table lane packed
packings_hold = refl also refl also refl also refl also refl also none

pub bursts_hold : AllHold burst_cases
unfolding bursts burst_declines mixed unmixed joined burst_input_refusal burst_refusal words_ok input_ok input_refusal fold table polynomial times_x shift_add product first inverse W.at W.weight W.distance W.product is_multiple_of_turn alike before all_zero reduce remainder divides unity width degree_of book_of length_fits length_ok kinds_ok sizes_ok body_ok symbols_ok generator_ok limits_ok dual_ok duals_ok distinct_ok book_refusal refusal check_sum check_value dual_entry entry_of matrix_of cell peak zero_count peak_count holders in_update_set correction empty_update_set corrected run decode_with
bursts_hold = refl also refl also refl also refl also refl also refl also refl also refl also refl also refl also refl also refl also none

pub games_hold : AllHold game_cases
unfolding games game_declines unmixed joined game_input_refusal game_refusal words_ok input_ok input_refusal fold table polynomial times_x shift_add product first inverse W.at W.weight W.distance W.product is_multiple_of_turn alike before all_zero reduce remainder quotient divides unity message width degree_of book_of length_fits length_ok kinds_ok sizes_ok body_ok symbols_ok generator_ok limits_ok dual_ok duals_ok distinct_ok book_refusal refusal check_sum check_value dual_entry entry_of matrix_of cell peak zero_count peak_count holders in_update_set correction empty_update_set corrected run decode_with
games_hold = refl also refl also refl also refl also refl also refl also refl also refl also refl also refl also refl also none

pub books_accepted : AllHold accepted
unfolding checks fold table polynomial times_x shift_add product W.weight W.product before all_zero reduce remainder divides unity width degree_of book_of length_fits length_ok kinds_ok sizes_ok body_ok symbols_ok generator_ok limits_ok dual_ok duals_ok distinct_ok book_refusal refusal
books_accepted = refl also refl also refl also refl also refl also refl also none
