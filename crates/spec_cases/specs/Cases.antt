-- SCOPE 8: The worked cases 1 to 14, remainders, words that are alike, short messages, forms, packed numbers, bursts and games: what the definitions give,
-- and what SCOPE.md has.
-- Assumes nothing.
use Rattle.std.specs.Prelude.{◌≡◌, Bool, true, false, List, [], ◌∷◌, ◌++◌, ℕ, length, get_or}
use Rattle.std.specs.Int.Bits.{bit_xor}
use Rattle.spec_range.specs.Table.{table}
use Rattle.spec_field.specs.Symbols.{product, gf}
use Rattle.spec_word.specs.Word.{at}
use Rattle.spec_word.specs.Alike.{alike}
use Rattle.spec_word.specs.Lanes.{lane, packed}
use Rattle.spec_word.specs.Mixed.{mixed, unmixed}
use Rattle.spec_book.specs.Book.{remainder_by}
use Rattle.spec_book.specs.Layout.{field_of, book_of, word_length, duals_in}
use Rattle.spec_book.specs.Conditions.{sizes_ok, refusal}
use Rattle.spec_coding.specs.Coder.{encode, message}
use Rattle.spec_decoding.specs.Matrix.{matrix, cell}
use Rattle.spec_decoding.specs.Decode.{Kind, holders, decode, mended, stalled, spent}
use Rattle.spec_decoding.specs.Symmetry.{move}
use Rattle.spec_operations.specs.Coding.{code_refusal}
use Rattle.spec_operations.specs.Burst.{burst_refusal, burst_word, answers_of, records_of, last_entries}
use Rattle.spec_operations.specs.Game.{game_refusal, game_held, game_values, game_messages}
use Rattle.spec_cases.specs.Books.{body_of, book_bytes, book_a, book_b, book_c, headed}

-- SCOPE 8.18: what is shown of an operation: numbers, or a kind, rounds, changed and the answer word
pub data Shown : Type 0 where
  numbers : List ℕ → Shown
  decoded : Kind → ℕ → ℕ → List ℕ → Shown

-- ---- the operations on a book's bytes. (What a `let` binds is computed once.)

-- SCOPE 3.16: the refusal number of a book, 0 where it is accepted
unfoldable pub checks : List ℕ → Shown
checks book =
    let bytes = book in
    let number = refusal bytes in
    numbers (number ∷ [])

-- SCOPE 4.5: the word that code writes
unfoldable pub codes : List ℕ → List ℕ → Shown
codes book f =
    let bytes = book in
    let F = field_of bytes in
    let B = book_of bytes in
    let word = encode F B f in
    numbers word

-- SCOPE 4.6: the symbols that read writes
unfoldable pub reads : List ℕ → List ℕ → Shown
reads book w =
    let bytes = book in
    let F = field_of bytes in
    let B = book_of bytes in
    let f = message F B w in
    numbers f

-- SCOPE 7.18: the number of code where its output has n bytes, 0 where the message is coded
unfoldable pub declines : List ℕ → List ℕ → ℕ
declines book f =
    let bytes = book in
    code_refusal bytes f (word_length bytes)

-- SCOPE 2.11: the number that packs eight symbols
unfoldable pub packs : List ℕ → ℕ
packs symbols = packed 8 8 (λ k. get_or symbols k 0)

-- SCOPE 2.11: the eight symbols that a number packs
unfoldable pub unpacks : ℕ → List ℕ
unpacks x = table 8 (λ k. lane 8 k x)

-- SCOPE 4.13: the entries that matrix writes
unfoldable pub fills : List ℕ → List ℕ → Shown
fills book r =
    let bytes = book in
    let F = field_of bytes in
    let B = book_of bytes in
    let entries = matrix F B (at B.n r) in
    numbers entries

-- SCOPE 4.16: what decode answers, with its answer word
unfoldable pub decodes : List ℕ → List ℕ → Shown
decodes book r =
    let bytes = book in
    let F = field_of bytes in
    let B = book_of bytes in
    let x = decode F B r in
    decoded x.kind x.rounds x.changed x.answer

-- SCOPE 4.20: how many nonzero symbols have the peak of each column of the matrix
unfoldable pub holds : List ℕ → List ℕ → Shown
holds book r =
    let bytes = book in
    let F = field_of bytes in
    let B = book_of bytes in
    let entries = matrix F B (at B.n r) in
    numbers (table B.n (holders F B (cell F B entries)))

-- SCOPE 4.32: the symbols that remainder writes
unfoldable pub leaves : List ℕ → List ℕ → Shown
leaves book w =
    let bytes = book in
    let F = field_of bytes in
    let B = book_of bytes in
    let R = remainder_by F B (at B.n w) in
    numbers R

-- SCOPE 2.9: whether two words over GF(2^p) are alike
unfoldable pub compares : ℕ → List ℕ → List ℕ → Bool
compares p w v =
    let n = length w in
    alike (gf p) n (at n w) (at n v)

-- SCOPE 4.38 to 4.40: the answers, the records and the matrix of a burst
unfoldable pub bursts : List ℕ → ℕ → List ℕ → List (List ℕ)
bursts book words r =
    let bytes = book in
    let answers = answers_of words (burst_word bytes words r) in
    let records = records_of words (burst_word bytes words r) in
    let entries = last_entries words (burst_word bytes words r) in
    answers ∷ records ∷ entries ∷ []

-- SCOPE 7.18: the number of a burst with these sizes of its answers, list and matrix
unfoldable pub burst_declines : List ℕ → ℕ → List ℕ → ℕ → ℕ → ℕ → ℕ
burst_declines book words r answers list entries =
    let bytes = book in
    burst_refusal bytes words r answers list entries

-- SCOPE 4.42, 4.44: the values of a game, and the message buffer, which held `old`
unfoldable pub games : List ℕ → ℕ → List ℕ → List ℕ → List (List ℕ)
games book words r old =
    let bytes = book in
    let values = game_values (game_held bytes words r) in
    let messages = game_messages bytes words r old in
    values ∷ messages ∷ []

-- SCOPE 7.18: the number of a game with this size of its messages
unfoldable pub game_declines : List ℕ → ℕ → List ℕ → ℕ → ℕ
game_declines book words r messages =
    let bytes = book in
    game_refusal bytes words r messages

-- SCOPE 5.11: the word w turned by t, times c, plus v
unfoldable pub moved : List ℕ → ℕ → ℕ → List ℕ → List ℕ → List ℕ
moved book t c v w =
    let bytes = book in
    move (field_of bytes) (word_length bytes) t c v w

-- ---- the list

-- SCOPE 8.18: the one list, case 1 first
abbrev pub cases : List (Type 0)
cases =
    -- 1. (SCOPE 8.1) p 2: 2 × 3 is 1, and 2 × 2 is 3
    (numbers (product 2 2 3 ∷ product 2 2 2 ∷ []) ≡ numbers (1 ∷ 3 ∷ []))
    -- 2. (SCOPE 8.2) A: 1000 is coded as 1101000
    ∷ (codes (book_a 1) (1 ∷ 0 ∷ 0 ∷ 0 ∷ []) ≡ numbers (1 ∷ 1 ∷ 0 ∷ 1 ∷ 0 ∷ 0 ∷ 0 ∷ []))
    -- 3. (SCOPE 8.3) A: 1100 is coded as 1011100
    ∷ (codes (book_a 1) (1 ∷ 1 ∷ 0 ∷ 0 ∷ []) ≡ numbers (1 ∷ 0 ∷ 1 ∷ 1 ∷ 1 ∷ 0 ∷ 0 ∷ []))
    -- 4. (SCOPE 8.4) C: 01 is coded as 021
    ∷ (codes (book_c 2) (0 ∷ 1 ∷ []) ≡ numbers (0 ∷ 2 ∷ 1 ∷ []))
    -- 5. (SCOPE 8.5) A, 1000000: row 0 of the matrix 0222222, row 1 4222222
    ∷ (fills (book_a 1) (1 ∷ 0 ∷ 0 ∷ 0 ∷ 0 ∷ 0 ∷ 0 ∷ []) ≡ numbers (0 ∷ 2 ∷ 2 ∷ 2 ∷ 2 ∷ 2 ∷ 2 ∷ 4 ∷ 2 ∷ 2 ∷ 2 ∷ 2 ∷ 2 ∷ 2 ∷ []))
    -- 6. (SCOPE 8.6) A, 1000000: Mended, 1, 1, 0000000
    ∷ (decodes (book_a 1) (1 ∷ 0 ∷ 0 ∷ 0 ∷ 0 ∷ 0 ∷ 0 ∷ []) ≡ decoded mended 1 1 (0 ∷ 0 ∷ 0 ∷ 0 ∷ 0 ∷ 0 ∷ 0 ∷ []))
    -- 7. (SCOPE 8.7) A, 1100000: Mended, 1, 1, 1101000, another code word
    ∷ (decodes (book_a 1) (1 ∷ 1 ∷ 0 ∷ 0 ∷ 0 ∷ 0 ∷ 0 ∷ []) ≡ decoded mended 1 1 (1 ∷ 1 ∷ 0 ∷ 1 ∷ 0 ∷ 0 ∷ 0 ∷ []))
    -- 8. (SCOPE 8.8) A with D 6, 1000000: as case 6
    ∷ (decodes (book_a 6) (1 ∷ 0 ∷ 0 ∷ 0 ∷ 0 ∷ 0 ∷ 0 ∷ []) ≡ decoded mended 1 1 (0 ∷ 0 ∷ 0 ∷ 0 ∷ 0 ∷ 0 ∷ 0 ∷ []))
    -- 9. (SCOPE 8.9) A with D 7, 1000000: Spent, 3, 0, 1000000
    ∷ (decodes (book_a 7) (1 ∷ 0 ∷ 0 ∷ 0 ∷ 0 ∷ 0 ∷ 0 ∷ []) ≡ decoded spent 3 0 (1 ∷ 0 ∷ 0 ∷ 0 ∷ 0 ∷ 0 ∷ 0 ∷ []))
    -- 10. (SCOPE 8.10) B, 311: Mended, 1, 1, 111
    ∷ (decodes book_b (3 ∷ 1 ∷ 1 ∷ []) ≡ decoded mended 1 1 (1 ∷ 1 ∷ 1 ∷ []))
    -- 11. (SCOPE 8.11) B, 120: Stalled, 1, 0, 120; in each column two symbols have the peak
    ∷ (decodes book_b (1 ∷ 2 ∷ 0 ∷ []) ≡ decoded stalled 1 0 (1 ∷ 2 ∷ 0 ∷ []))
    ∷ (holds book_b (1 ∷ 2 ∷ 0 ∷ []) ≡ numbers (2 ∷ 2 ∷ 2 ∷ []))
    -- 12. (SCOPE 8.12) B, 132, which is 120 turned by 1, times 2, plus 111: Stalled, 1, 0, 132
    ∷ (decodes book_b (moved book_b 1 2 (1 ∷ 1 ∷ 1 ∷ []) (1 ∷ 2 ∷ 0 ∷ [])) ≡ decoded stalled 1 0 (1 ∷ 3 ∷ 2 ∷ []))
    -- 13. (SCOPE 8.13) C, 100: Stalled, 1, 0, 100
    ∷ (decodes (book_c 2) (1 ∷ 0 ∷ 0 ∷ []) ≡ decoded stalled 1 0 (1 ∷ 0 ∷ 0 ∷ []))
    -- 14. (SCOPE 8.14) C with D 3, 100: Mended, 1, 3, 032
    ∷ (decodes (book_c 3) (1 ∷ 0 ∷ 0 ∷ []) ≡ decoded mended 1 3 (0 ∷ 3 ∷ 2 ∷ []))
    ∷ []

-- SCOPE 8.20: remainders
abbrev pub remainders : List (Type 0)
remainders =
    -- A: 1000000 leaves 100, and 0001000 leaves 110, from x^0
    (leaves (book_a 1) (1 ∷ 0 ∷ 0 ∷ 0 ∷ 0 ∷ 0 ∷ 0 ∷ []) ≡ numbers (1 ∷ 0 ∷ 0 ∷ []))
    ∷ (leaves (book_a 1) (0 ∷ 0 ∷ 0 ∷ 1 ∷ 0 ∷ 0 ∷ 0 ∷ []) ≡ numbers (1 ∷ 1 ∷ 0 ∷ []))
    -- A: the code word 1101000 leaves 000, and 1100000, which is 0001000 plus it, leaves 110 too
    ∷ (leaves (book_a 1) (1 ∷ 1 ∷ 0 ∷ 1 ∷ 0 ∷ 0 ∷ 0 ∷ []) ≡ numbers (0 ∷ 0 ∷ 0 ∷ []))
    ∷ (leaves (book_a 1) (1 ∷ 1 ∷ 0 ∷ 0 ∷ 0 ∷ 0 ∷ 0 ∷ []) ≡ numbers (1 ∷ 1 ∷ 0 ∷ []))
    -- B: 321 leaves 23, since x^2 is 1 + x
    ∷ (leaves book_b (3 ∷ 2 ∷ 1 ∷ []) ≡ numbers (2 ∷ 3 ∷ []))
    ∷ []

-- SCOPE 8.21: words that are alike, and words that are not
abbrev pub likenesses : List (Type 0)
likenesses =
    -- p 1: 1101001 is 1110100 turned by 6; 1001011, the mirror image of 1110100, is no turn of it
    (compares 1 (1 ∷ 1 ∷ 0 ∷ 1 ∷ 0 ∷ 0 ∷ 1 ∷ []) (1 ∷ 1 ∷ 1 ∷ 0 ∷ 1 ∷ 0 ∷ 0 ∷ []) ≡ true)
    ∷ (compares 1 (1 ∷ 0 ∷ 0 ∷ 1 ∷ 0 ∷ 1 ∷ 1 ∷ []) (1 ∷ 1 ∷ 1 ∷ 0 ∷ 1 ∷ 0 ∷ 0 ∷ []) ≡ false)
    -- p 2: 103 is 120 turned by 2, times 3; 102 is no multiple of a turn of 120
    ∷ (compares 2 (1 ∷ 0 ∷ 3 ∷ []) (1 ∷ 2 ∷ 0 ∷ []) ≡ true)
    ∷ (compares 2 (1 ∷ 0 ∷ 2 ∷ []) (1 ∷ 2 ∷ 0 ∷ []) ≡ false)
    -- A: with 1101001 for a second dual word it is refused by 8
    ∷ (checks (book_a 1 ++ (4 ∷ body_of (1 ∷ 1 ∷ 0 ∷ 1 ∷ 0 ∷ 0 ∷ 1 ∷ []))) ≡ numbers (8 ∷ []))
    -- p 1: s 3, g 1111111 with the dual words 11 and 101, which have one weight and are not alike, is accepted
    ∷ (checks (book_bytes 3 1 (1 ∷ 1 ∷ 1 ∷ 1 ∷ 1 ∷ 1 ∷ 1 ∷ []) 3 1 (1 ∷ 1 ∷ []) ++ (4 ∷ body_of (1 ∷ 0 ∷ 1 ∷ []))) ≡ numbers (0 ∷ []))
    ∷ []

-- SCOPE 8.22: short messages
abbrev pub shorts : List (Type 0)
shorts =
    -- A: 1 is coded as 1000 is (case 2), 11 as 1100 (case 3), 01 as 0110100, and 0 as 0000000
    (codes (book_a 1) (1 ∷ []) ≡ numbers (1 ∷ 1 ∷ 0 ∷ 1 ∷ 0 ∷ 0 ∷ 0 ∷ []))
    ∷ (codes (book_a 1) (1 ∷ 1 ∷ []) ≡ numbers (1 ∷ 0 ∷ 1 ∷ 1 ∷ 1 ∷ 0 ∷ 0 ∷ []))
    ∷ (codes (book_a 1) (0 ∷ 1 ∷ []) ≡ numbers (0 ∷ 1 ∷ 1 ∷ 0 ∷ 1 ∷ 0 ∷ 0 ∷ []))
    ∷ (codes (book_a 1) (0 ∷ []) ≡ numbers (0 ∷ 0 ∷ 0 ∷ 0 ∷ 0 ∷ 0 ∷ 0 ∷ []))
    -- A: 0110100 is read as 0100, k symbols
    ∷ (reads (book_a 1) (0 ∷ 1 ∷ 1 ∷ 0 ∷ 1 ∷ 0 ∷ 0 ∷ []) ≡ numbers (0 ∷ 1 ∷ 0 ∷ 0 ∷ []))
    -- C: 3 is coded as 130, and read as 30
    ∷ (codes (book_c 2) (3 ∷ []) ≡ numbers (1 ∷ 3 ∷ 0 ∷ []))
    ∷ (reads (book_c 2) (1 ∷ 3 ∷ 0 ∷ []) ≡ numbers (3 ∷ 0 ∷ []))
    -- A: code has the number 9 for no symbols, 0 for 1 and for 4, which is k, and 9 for 5
    ∷ (numbers (declines (book_a 1) [] ∷ declines (book_a 1) (1 ∷ []) ∷ []) ≡ numbers (9 ∷ 0 ∷ []))
    ∷ (numbers (declines (book_a 1) (1 ∷ 0 ∷ 0 ∷ 0 ∷ []) ∷ declines (book_a 1) (1 ∷ 0 ∷ 0 ∷ 0 ∷ 0 ∷ []) ∷ []) ≡ numbers (0 ∷ 9 ∷ []))
    -- B: k is 1, so that no message is short: 9 for no symbols, 0 for 1, 9 for 2
    ∷ (numbers (declines book_b [] ∷ declines book_b (2 ∷ []) ∷ declines book_b (2 ∷ 0 ∷ []) ∷ []) ≡ numbers (9 ∷ 0 ∷ 9 ∷ []))
    ∷ []

-- SCOPE 8.23: the two forms of a book
abbrev pub forms : List (Type 0)
forms =
    -- 134 bytes with byte 3 = 5; 2310 bytes with byte 3 = 9 and with 2
    (checks (headed 5 134) ≡ numbers (1 ∷ []))
    ∷ (checks (headed 9 2310) ≡ numbers (2 ∷ []))
    ∷ (checks (headed 2 2310) ≡ numbers (1 ∷ []))
    -- 518 bytes: 7 dual words in the short form, one in the long
    ∷ (numbers (duals_in (headed 2 518) ∷ duals_in (headed 5 518) ∷ []) ≡ numbers (7 ∷ 1 ∷ []))
    -- long: s 7 with p 1, s 8 with p 1, 2 and 4
    ∷ (sizes_ok (1 ∷ 7 ∷ 1 ∷ 5 ∷ []) ≡ true)
    ∷ (sizes_ok (1 ∷ 8 ∷ 1 ∷ 5 ∷ []) ≡ true)
    ∷ (sizes_ok (1 ∷ 8 ∷ 2 ∷ 5 ∷ []) ≡ true)
    ∷ (sizes_ok (1 ∷ 8 ∷ 4 ∷ 5 ∷ []) ≡ true)
    -- long: not s 7 with p 7, s 8 with p 3 and 8, and s 6
    ∷ (sizes_ok (1 ∷ 7 ∷ 7 ∷ 5 ∷ []) ≡ false)
    ∷ (sizes_ok (1 ∷ 8 ∷ 3 ∷ 5 ∷ []) ≡ false)
    ∷ (sizes_ok (1 ∷ 8 ∷ 8 ∷ 5 ∷ []) ≡ false)
    ∷ (sizes_ok (1 ∷ 6 ∷ 1 ∷ 5 ∷ []) ≡ false)
    -- short: s 6 with p 6, and not s 7
    ∷ (sizes_ok (1 ∷ 6 ∷ 6 ∷ 2 ∷ []) ≡ true)
    ∷ (sizes_ok (1 ∷ 7 ∷ 1 ∷ 2 ∷ []) ≡ false)
    ∷ []

-- SCOPE 8.24: symbols packed in a number
abbrev pub packings : List (Type 0)
packings =
    -- the lowest place in the lowest byte
    (packs (1 ∷ 2 ∷ 3 ∷ 0 ∷ 0 ∷ 0 ∷ 0 ∷ 0 ∷ []) ≡ 197121)
    ∷ (packs (0 ∷ 0 ∷ 0 ∷ 0 ∷ 0 ∷ 0 ∷ 0 ∷ 1 ∷ []) ≡ 72057594037927936)
    -- read back
    ∷ (unpacks 197121 ≡ 1 ∷ 2 ∷ 3 ∷ 0 ∷ 0 ∷ 0 ∷ 0 ∷ 0 ∷ [])
    ∷ (unpacks 18446744073709551615 ≡ 255 ∷ 255 ∷ 255 ∷ 255 ∷ 255 ∷ 255 ∷ 255 ∷ 255 ∷ [])
    -- added: 1, 2, 3 and 2, 2, 1, and 63 at place 7
    ∷ (unpacks (bit_xor (packs (1 ∷ 2 ∷ 3 ∷ [])) (packs (2 ∷ 2 ∷ 1 ∷ 0 ∷ 0 ∷ 0 ∷ 0 ∷ 63 ∷ []))) ≡ 3 ∷ 0 ∷ 2 ∷ 0 ∷ 0 ∷ 0 ∷ 0 ∷ 63 ∷ [])
    ∷ []

-- SCOPE 8.25: the three words 1000000, 1100000 and 1101000, and how they are mixed
abbrev pub three_words : ℕ → List ℕ
three_words m = get_or ((1 ∷ 0 ∷ 0 ∷ 0 ∷ 0 ∷ 0 ∷ 0 ∷ []) ∷ (1 ∷ 1 ∷ 0 ∷ 0 ∷ 0 ∷ 0 ∷ 0 ∷ []) ∷ (1 ∷ 1 ∷ 0 ∷ 1 ∷ 0 ∷ 0 ∷ 0 ∷ []) ∷ []) m []

abbrev pub three_mixed : List ℕ
three_mixed = 1 ∷ 1 ∷ 1 ∷ 0 ∷ 1 ∷ 1 ∷ 0 ∷ 0 ∷ 0 ∷ 0 ∷ 0 ∷ 1 ∷ 0 ∷ 0 ∷ 0 ∷ 0 ∷ 0 ∷ 0 ∷ 0 ∷ 0 ∷ 0 ∷ []

-- SCOPE 8.25: bursts
abbrev pub burst_cases : List (Type 0)
burst_cases =
    -- 1000000, 1100000 and 1101000 are mixed as 111 011 000 001 000 000 000, and word 1 is had from that
    (mixed 7 3 three_words ≡ three_mixed)
    ∷ (unmixed 7 3 three_mixed 1 ≡ 1 ∷ 1 ∷ 0 ∷ 0 ∷ 0 ∷ 0 ∷ 0 ∷ [])
    -- A: these three have the answers 0000000 1101000 1101000 and the records M 1 1, M 1 1, C 0 0; the last one's matrix is zero
    ∷ (bursts (book_a 1) 3 three_mixed
    ≡ (0 ∷ 0 ∷ 0 ∷ 0 ∷ 0 ∷ 0 ∷ 0 ∷ 1 ∷ 1 ∷ 0 ∷ 1 ∷ 0 ∷ 0 ∷ 0 ∷ 1 ∷ 1 ∷ 0 ∷ 1 ∷ 0 ∷ 0 ∷ 0 ∷ [])
    ∷ (77 ∷ 1 ∷ 1 ∷ 77 ∷ 1 ∷ 1 ∷ 67 ∷ 0 ∷ 0 ∷ [])
    ∷ (0 ∷ 0 ∷ 0 ∷ 0 ∷ 0 ∷ 0 ∷ 0 ∷ 0 ∷ 0 ∷ 0 ∷ 0 ∷ 0 ∷ 0 ∷ 0 ∷ [])
    ∷ [])
    -- A: 1101000 and 1000000, mixed as 11 10 00 10 00 00 00, leave the matrix of case 5
    ∷ (bursts (book_a 1) 2 (1 ∷ 1 ∷ 1 ∷ 0 ∷ 0 ∷ 0 ∷ 1 ∷ 0 ∷ 0 ∷ 0 ∷ 0 ∷ 0 ∷ 0 ∷ 0 ∷ [])
    ≡ (1 ∷ 1 ∷ 0 ∷ 1 ∷ 0 ∷ 0 ∷ 0 ∷ 0 ∷ 0 ∷ 0 ∷ 0 ∷ 0 ∷ 0 ∷ 0 ∷ [])
    ∷ (67 ∷ 0 ∷ 0 ∷ 77 ∷ 1 ∷ 1 ∷ [])
    ∷ (0 ∷ 2 ∷ 2 ∷ 2 ∷ 2 ∷ 2 ∷ 2 ∷ 4 ∷ 2 ∷ 2 ∷ 2 ∷ 2 ∷ 2 ∷ 2 ∷ [])
    ∷ [])
    -- A: the number is 14 for 0 words and for 17, also where the length is wrong, and for 16 it is 9 then
    ∷ (burst_declines (book_a 1) 0 [] 0 0 14 ≡ 14)
    ∷ (burst_declines (book_a 1) 17 three_mixed 0 0 0 ≡ 14)
    ∷ (burst_declines (book_a 1) 16 three_mixed 0 0 0 ≡ 9)
    -- A: the number is 10 for 20 bytes of answers, for 4 records and for 13 entries, 11 for a symbol 2, and 0 where nothing is wrong
    ∷ (burst_declines (book_a 1) 3 three_mixed 20 3 14 ≡ 10)
    ∷ (burst_declines (book_a 1) 3 three_mixed 21 4 14 ≡ 10)
    ∷ (burst_declines (book_a 1) 3 three_mixed 21 3 13 ≡ 10)
    ∷ (burst_declines (book_a 1) 1 (0 ∷ 0 ∷ 0 ∷ 0 ∷ 0 ∷ 0 ∷ 2 ∷ []) 7 1 14 ≡ 11)
    ∷ (burst_declines (book_a 1) 3 three_mixed 21 3 14 ≡ 0)
    ∷ []

-- SCOPE 8.26: games
abbrev pub game_cases : List (Type 0)
game_cases =
    -- A: the three words of 8.25 are Mended, Mended and Clean: Whole, with the messages 0000 1000 1000
    (games (book_a 1) 3 three_mixed (9 ∷ 9 ∷ 9 ∷ 9 ∷ 9 ∷ 9 ∷ 9 ∷ 9 ∷ 9 ∷ 9 ∷ 9 ∷ 9 ∷ [])
    ≡ (0 ∷ 0 ∷ 87 ∷ []) ∷ (0 ∷ 0 ∷ 0 ∷ 0 ∷ 1 ∷ 0 ∷ 0 ∷ 0 ∷ 1 ∷ 0 ∷ 0 ∷ 0 ∷ []) ∷ [])
    -- B: 311, 120 and 111, mixed as 311 121 101, are Mended, Stalled and Clean: Held, 1, and the buffer stays
    ∷ (games book_b 3 (3 ∷ 1 ∷ 1 ∷ 1 ∷ 2 ∷ 1 ∷ 1 ∷ 0 ∷ 1 ∷ []) (9 ∷ 9 ∷ 9 ∷ []) ≡ (1 ∷ 0 ∷ 72 ∷ []) ∷ (9 ∷ 9 ∷ 9 ∷ []) ∷ [])
    -- B: 311 and 111, mixed as 31 11 11: Whole, with the messages 1 and 1
    ∷ (games book_b 2 (3 ∷ 1 ∷ 1 ∷ 1 ∷ 1 ∷ 1 ∷ []) (9 ∷ 9 ∷ []) ≡ (0 ∷ 0 ∷ 87 ∷ []) ∷ (1 ∷ 1 ∷ []) ∷ [])
    -- B: 120 and 132, mixed as 11 23 02, are both Stalled: Held, 2
    ∷ (games book_b 2 (1 ∷ 1 ∷ 2 ∷ 3 ∷ 0 ∷ 2 ∷ []) (9 ∷ 8 ∷ []) ≡ (2 ∷ 0 ∷ 72 ∷ []) ∷ (9 ∷ 8 ∷ []) ∷ [])
    -- A: with D 7, 1101000 and 1000000 are Clean and Spent: Held, 1
    ∷ (games (book_a 7) 2 (1 ∷ 1 ∷ 1 ∷ 0 ∷ 0 ∷ 0 ∷ 1 ∷ 0 ∷ 0 ∷ 0 ∷ 0 ∷ 0 ∷ 0 ∷ 0 ∷ []) (9 ∷ 9 ∷ 9 ∷ 9 ∷ 9 ∷ 9 ∷ 9 ∷ 9 ∷ [])
    ≡ (1 ∷ 0 ∷ 72 ∷ []) ∷ (9 ∷ 9 ∷ 9 ∷ 9 ∷ 9 ∷ 9 ∷ 9 ∷ 9 ∷ []) ∷ [])
    -- A: the number is 14 for 0 words and for 17, also where the lengths are wrong, and for 16 it is 9 then
    ∷ (game_declines (book_a 1) 0 [] 0 ≡ 14)
    ∷ (game_declines (book_a 1) 17 three_mixed 0 ≡ 14)
    ∷ (game_declines (book_a 1) 16 three_mixed 0 ≡ 9)
    -- A: the number is 10 for 21 bytes of messages, which is n × M, and 0 for 12, which is k × M; 11 for a symbol 2
    ∷ (game_declines (book_a 1) 3 three_mixed 21 ≡ 10)
    ∷ (game_declines (book_a 1) 3 three_mixed 12 ≡ 0)
    ∷ (game_declines (book_a 1) 1 (0 ∷ 0 ∷ 0 ∷ 0 ∷ 0 ∷ 0 ∷ 2 ∷ []) 4 ≡ 11)
    ∷ []

-- every case of a list holds
infixr 5 ◌also◌
-- SCOPE 8.18: every case of a list holds
pub data AllHold : List (Type 0) → Type 1 where
  none : AllHold []
  ◌also◌ : {c : Type 0} {cs : List (Type 0)} → c → AllHold cs → AllHold (c ∷ cs)

-- SCOPE 3.16: the books that the cases use are accepted
abbrev pub accepted : List (Type 0)
accepted =
    (checks (book_a 1) ≡ numbers (0 ∷ []))
    ∷ (checks (book_a 6) ≡ numbers (0 ∷ []))
    ∷ (checks (book_a 7) ≡ numbers (0 ∷ []))
    ∷ (checks book_b ≡ numbers (0 ∷ []))
    ∷ (checks (book_c 2) ≡ numbers (0 ∷ []))
    ∷ (checks (book_c 3) ≡ numbers (0 ∷ []))
    ∷ []
