-- The terms of a dual word's nonzero places as the loop has them after h of n places, and those of one dual word after another.
-- Assumes nothing.
use mathlib.Core.Path.{◌≡◌, refl, sym, ap, ◌∙◌, subst}
use mathlib.Core.Bool.{Bool, true, false, not}
use mathlib.Core.List.{List}
use mathlib.Core.Logic.{⊎_elim}
use Prim.Native.Nat.{ℕ, ◌+◌, ◌*◌, ◌%◌, ◌^◌, ◌≤◌, ◌<◌, zero-le}
use native.Mathlib.Nat.{le_trans, not-suc-le-zero, mod-eq_of_lt, eq-or-lt_of_le, le_of_suc-le-suc, ne_of_lt}
use native.Mathlib.Numerals.{add-one}
use native.Mathlib.Decide.{dec_lt, ℕ_discrete}
use native.Mathlib.Omega.{arith}
use borrow.Author.Tests.{eq-eqb}
use lib.ListN.{length, set, length-set, replicate}
use lib.Seq.{get_or-set_same, get_or-set_other}
use lib.Pow.{pow_pos, pow_mono}
use mir.Val.{bool_byte}
use Rattle.spec_word.specs.Word.{nonzero, weight}
use Rattle.sizes.specs.Blocks.{blocks, span, stride}
use Rattle.sizes.proofs.Lengths.{blocks_fit}
use Rattle.word_array.specs.Stored.{place, Sizes}
use Rattle.word_table.proofs.Rows.{rows_apart}
use Rattle.field_powers.specs.Powers.{power, PowersOf, PowersPut}
use Rattle.spec_book.specs.Layout.{book_of, width, dual_at, body_place}
use Rattle.matrix_terms.specs.Terms.{Places, Turns, dual_of, term, RowOf, TermsOf, Kept, unlisted, already, terms_at, weight_in}
use Rattle.matrix_terms.specs.Listed.{DualIn, RowIn, Listable, DualListed}
use Rattle.matrix_terms.proofs.Digits.{log_of, place_of}
use Rattle.matrix_terms.proofs.Received.{table_le}
use Rattle.matrix_terms.proofs.Listing.{Listing, listing_none, listing-more, listing_end}
use Rattle.matrix_terms.proofs.Whole.{places_weight}

-- ---- one dual word

-- the term of a place h
abbrev term_of : ℕ → List ℕ → (ℕ → ℕ) → ℕ → ℕ
term_of stride logs b h = stride * place logs (b h) + h

-- the terms of the nonzero places below h are in the row that starts at `from`; `places` are these
pub record Written (stride n : ℕ) (b : ℕ → ℕ) (from : ℕ) (terms₀ : List ℕ) (count h : ℕ) (terms : List ℕ) : Type 0 where
  pub places : List ℕ
  pub listing : Listing n b places count h
  pub symbol_pos : (i : ℕ) → i < count → 0 < b (place places i)
  pub long : length terms ≡ length terms₀
  pub low : (k : ℕ) → k < from → place terms k ≡ place terms₀ k
  pub turn_at : (i : ℕ) → i < count → place terms (from + i) ≡ term_of stride terms₀ b (place places i)

-- before the first place
pub written_none : (stride n : ℕ) (b : ℕ → ℕ) (from : ℕ) (terms : List ℕ) → Written stride n b from terms 0 0 terms
written_none stride n b from terms =
    record {
      places = replicate n 0;
      listing = listing_none n b;
      symbol_pos = λ i l. absurd (not-suc-le-zero l);
      long = refl;
      low = λ k l. refl;
      turn_at = λ i l. absurd (not-suc-le-zero l);
    }

-- a fact of every place listed, after one more
each_more : (P : ℕ → ℕ → Type 0) (places : List ℕ) {count h : ℕ} → count < length places → P count h
    → ((i : ℕ) → i < count → P i (place places i)) → (i : ℕ) → i < count + 1 → P i (place (set places count h) i)
each_more P places {count} {h} free last old i d =
    ⊎_elim
    (λ q. subst (λ (i : ℕ). P i (place (set places count h) i)) (sym q) (subst (P count) (sym (get_or-set_same places count h 0 free)) last))
    (λ d. subst (P i) (sym (get_or-set_other places count i h 0 (ne_of_lt d))) (old i d))
    (eq-or-lt_of_le (le_of_suc-le-suc (subst (λ (m : ℕ). i < m) (add-one count) d)))

-- one more of a row's terms is written, in the list w
row_more : (f : ℕ → ℕ) (from : ℕ) (w places : List ℕ) {count h v : ℕ} → count < length places → from + count < length w → v ≡ f h
    → ((i : ℕ) → i < count → place w (from + i) ≡ f (place places i))
    → (i : ℕ) → i < count + 1 → place (set w (from + count) v) (from + i) ≡ f (place (set places count h) i)
row_more f from w places {count} {h} {v} free room e old =
    each_more (λ i x. place (set w (from + count) v) (from + i) ≡ f x) places free (get_or-set_same w (from + count) v 0 room ∙ e)
    (λ i d. get_or-set_other w (from + count) (from + i) v 0 (omega arith) ∙ old i d)

-- a test's byte
byte_le : (t : Bool) → bool_byte t ≤ 1
byte_le true = omega arith
byte_le false = omega arith

module _ {stride n : ℕ} {b : ℕ → ℕ} {from : ℕ} {terms₀ : List ℕ} {count h : ℕ} {terms : List ℕ}
    (s : Written stride n b from terms₀ count h terms) (l : h < n) where
  -- the place written is in the room
  pub term_in : from + n ≤ length terms₀ → from + count < length terms
  term_in room = omega (arith, s.long, s.listing.count_le)

  -- there is room for one more place
  free : count < length s.places
  free = omega (arith, s.listing.long, s.listing.count_le)

  -- a place that counts has a nonzero symbol
  positive : (i : ℕ) → i < count + bool_byte (nonzero (b h)) → 0 < b (place (set s.places count h) i)
  positive i d = go (ℕ_discrete (b h) 0)
    where
      old : Dec (i < count) → Dec (b h ≡ 0) → 0 < b (place (set s.places count h) i)
      old (yes a) z = subst (λ (x : ℕ). 0 < b x) (sym (get_or-set_other s.places count i h 0 (ne_of_lt a))) (s.symbol_pos i a)
      old (no a) (yes z) =
          absurd (a (omega (arith, subst (λ (t : Bool). i < count + bool_byte (not t)) (eq-eqb (b h) 0 z) d)))
      old (no a) (no z) =
          each_more (λ i x. 0 < b x) s.places free (omega arith) s.symbol_pos i (omega (arith, byte_le (nonzero (b h))))

      go : Dec (b h ≡ 0) → 0 < b (place (set s.places count h) i)
      go z = old (dec_lt i count) z

  -- one more place
  written_more : {v : ℕ} → from + n ≤ length terms₀ → v ≡ term_of stride terms₀ b h
      → Written stride n b from terms₀ (count + bool_byte (nonzero (b h))) (h + 1) (set terms (from + count) v)
  written_more {v} room e =
      record {
        places = set s.places count h;
        listing = listing-more s.listing l;
        symbol_pos = positive;
        long = length-set terms (from + count) v ∙ s.long;
        low = λ k d. get_or-set_other terms (from + count) k v 0 (omega arith) ∙ s.low k d;
        turn_at = λ i d. row_more (term_of stride terms₀ b) from terms s.places free (term_in room) e s.turn_at i (omega (arith, byte_le (nonzero (b h))));
      }

-- dual word l, which is read from d + 1 on, and whose terms are written behind l rows of x blocks
module _ {bytes : List ℕ} {p n l d x : ℕ} (ok : DualIn bytes p n l) (starts : d ≡ dual_at (width bytes) l) (e : x ≡ blocks n) where
  dual-byte : {j : ℕ} → j < n → place bytes (d + 1 + j) ≡ dual_of bytes l j
  unfolding book_of
  dual-byte {j} a = ap (λ (k : ℕ). place bytes (k + 1 + j)) starts
      ∙ ap (body_place bytes (dual_at (width bytes) l)) (sym (mod-eq_of_lt a) ∙ ap (λ (x : ℕ). j % x) ok.length_is)

  dual-symbol : {j : ℕ} → j < n → place bytes (d + 1 + j) < 2 ^ p
  dual-symbol {j} a = subst (λ (x : ℕ). x < 2 ^ p) (sym (dual-byte a)) (ok.symbol j)

  pub dual_small : {j : ℕ} → j < n → place bytes (d + 1 + j) < 64
  dual_small a = let high : 2 ^ p ≤ 2 ^ 6 = pow_mono ok.sizes.p_high in omega (arith, dual-symbol a)

  goes : terms_at + 64 * x * l ≡ terms_at + span n * l
  goes = ap (λ (x : ℕ). terms_at + 64 * x * l) e

  -- its row has room for a term at each place
  pub row_fits : {terms₀ : List ℕ} → RowIn p n l terms₀ → terms_at + 64 * x * l + n ≤ length terms₀
  row_fits room = omega (arith, goes, room.within, blocks_fit ok.sizes.n_high)

  module _ {terms₀ : List ℕ} {count h : ℕ} {terms : List ℕ}
      (s : Written (128 * x) n (λ j. place bytes (d + 1 + j)) (terms_at + 64 * x * l) terms₀ count h terms) where
    -- the number read for the next symbol is the one that stood there
    log-kept : h < n → place terms (place bytes (d + 1 + h)) ≡ place terms₀ (place bytes (d + 1 + h))
    log-kept a = s.low _ (omega (arith, dual_small a))

    -- and it is small
    number_small : RowIn p n l terms₀ → h < n → place terms (place bytes (d + 1 + h)) < 2 ^ p
    number_small room a = subst (λ (x : ℕ). x < 2 ^ p) (sym (log-kept a)) (room.small _ (dual-symbol a))

    -- so that its term is
    pub term-small : RowIn p n l terms₀ → h < n → 128 * x * place terms (place bytes (d + 1 + h)) + 128 * x ≤ 8192
    term-small room a = subst (λ (y : ℕ). 128 * y * place terms (place bytes (d + 1 + h)) + 128 * y ≤ 8192) (sym e)
        (le_trans (rows_apart (128 * blocks n) (number_small room a)) (table_le ok.sizes))

    -- one more place
    pub dual_more : RowIn p n l terms₀ → h < n
        → Written (128 * x) n (λ j. place bytes (d + 1 + j)) (terms_at + 64 * x * l) terms₀ (count + bool_byte (nonzero (place bytes (d + 1 + h)))) (h + 1)
        (set terms (terms_at + 64 * x * l + count) (128 * x * place terms (place bytes (d + 1 + h)) + h))
    dual_more room a = written_more s a (row_fits room) (ap (λ (y : ℕ). 128 * x * y + h) (log-kept a))

    -- a place listed is below n
    low : n ≤ h → (i : ℕ) → i < count → place s.places i < n
    low end i a = omega (arith, s.listing.place_lt i a, s.listing.within)

    -- the places listed are those of the dual word
    listed : n ≤ h → Places n (dual_of bytes l) count
    listed end =
        record {
          place_at = place s.places;
          few = omega (arith, s.listing.count_le, s.listing.within);
          place_lt = low end;
          symbol_pos = λ i a. subst (λ (x : ℕ). 0 < x) (dual-byte (low end i a)) (s.symbol_pos i a);
          folds = listing_end s.listing end (λ j a. dual-byte a);
        }

    -- after the last place
    pub written-end : n ≤ h → DualListed (stride n) bytes n l count terms₀ terms
    unfolding listed
    written-end end = subst (λ (y : ℕ). DualListed (128 * y) bytes n l count terms₀ terms) e (record {
      long = s.long;
      low = λ k a. s.low k (omega (arith, goes));
      turns_of = record {
        places = listed end;
        turn_at = λ i a.
            ap (λ (k : ℕ). place terms (k + i)) (sym goes) ∙ s.turn_at i a
            ∙ ap (λ (y : ℕ). 128 * x * place terms₀ y + place s.places i) (dual-byte (low end i a));
      };
    })

-- ---- a room by its rows

-- the numbers below the rows
pub record Based (p n duals : ℕ) (terms : List ℕ) : Type 0 where
  pub sizes : Sizes p n
  pub few_duals : duals ≤ 32
  pub long : terms_at + span n * 32 ≤ length terms
  pub powers : PowersOf p terms
  pub few : weight_in terms ≤ n

-- with a row for each dual word
pub terms_of : {stride p n duals : ℕ} {b : ℕ → ℕ → ℕ} {terms : List ℕ} → n + n ≤ stride → Based p n duals terms
    → ((l : ℕ) → l < duals → RowOf stride p n l (b l) terms) → TermsOf stride p n duals b terms
terms_of {stride} {p} {n} {duals} {b} {terms} fits h rows =
    record {
      numbers = record {
        sizes = h.sizes;
        fits = fits;
        few_duals = h.few_duals;
        long = h.long;
        powers = h.powers;
        few = h.few;
        log_lt = λ l i d a.
            let t = (rows l d).turns_of in
            omega (arith, log_of fits t i a, h.powers.log_lt _ (t.places.symbol_pos i a) ((rows l d).symbol (t.places.place_at i)));
        place_lt = λ l i d a. let t = (rows l d).turns_of in omega (arith, place_of fits t i a, t.places.place_lt i a);
      };
      row_of = rows;
    }

-- ---- one dual word after another

-- the terms go by what is read
turns_same : {stride n : ℕ} {b : ℕ → ℕ} {logs logs' : List ℕ} {w : ℕ} {f g : ℕ → ℕ} → Turns stride n b logs w f
    → ((j : ℕ) → 0 < b j → place logs' (b j) ≡ place logs (b j)) → ((i : ℕ) → i < w → g i ≡ f i) → Turns stride n b logs' w g
turns_same {stride} h same e =
    record {
      places = h.places;
      turn_at = λ i l.
          e i l ∙ h.turn_at i l ∙ ap (λ (x : ℕ). stride * x + h.places.place_at i) (sym (same (h.places.place_at i) (h.places.symbol_pos i l)));
    }

-- so do powers and logarithms
powers_same : {p : ℕ} {w w' : List ℕ} → p ≤ 6 → PowersOf p w → ((k : ℕ) → 0 < k → k < terms_at → place w' k ≡ place w k) → PowersOf p w'
powers_same {p} high h same =
    let most : 2 ^ p ≤ 64 = pow_mono high in
    record {
      exp_at = λ e l. same (64 + e) (omega arith) (omega arith) ∙ h.exp_at e l;
      log_lt = λ c pos l. subst (λ (x : ℕ). x + 1 < 2 ^ p) (sym (same c pos (omega arith))) (h.log_lt c pos l);
      log_is = λ c pos l. ap (power p) (same c pos (omega arith)) ∙ h.log_is c pos l;
    }

-- the dual words below l are listed, and `last` is the weight found last; the numbers below the rows are as before
pub record ListedTo (stride : ℕ) (bytes : List ℕ) (n duals : ℕ) (terms₀ : List ℕ) (last l : ℕ) (terms : List ℕ) : Type 0 where
  pub within : l ≤ duals
  pub long : length terms ≡ length terms₀
  pub low : (k : ℕ) → k < terms_at → place terms k ≡ place terms₀ k
  pub last_is : 0 < l → last ≡ weight n (dual_of bytes 0)
  pub turns_of : (i : ℕ) → i < l → Turns stride n (dual_of bytes i) terms₀ (weight n (dual_of bytes 0)) (term n terms i)

-- before the first
pub listed_none : (stride : ℕ) (bytes : List ℕ) (n duals : ℕ) (terms : List ℕ) (last : ℕ) → ListedTo stride bytes n duals terms last 0 terms
listed_none stride bytes n duals terms last =
    record {
      within = zero-le;
      long = refl;
      low = λ k l. refl;
      last_is = λ l. absurd (not-suc-le-zero l);
      turns_of = λ i l. absurd (not-suc-le-zero l);
    }

module _ {bytes : List ℕ} {stride p n duals : ℕ} (ok : Listable bytes p n duals) {old terms₀ : List ℕ} (room : terms_at + span n * 32 ≤ length old)
    (put : PowersPut p old terms₀) {last l : ℕ} {terms : List ℕ} (h : ListedTo stride bytes n duals terms₀ last l terms) where
  -- there are at most 64 symbols
  most : 2 ^ p ≤ 64
  most = pow_mono ok.sizes.p_high

  -- the next dual word can be listed
  pub dual_in : l < duals → DualIn bytes p n l
  dual_in d =
      record { sizes = ok.sizes; length_is = ok.length_is; few = omega (arith, ok.duals_high); within = ok.within l d; symbol = λ j. ok.symbol l j d }

  pub row_in : l < duals → RowIn p n l terms
  row_in d =
      record {
        within = let few : l < 32 = omega (arith, ok.duals_high) in omega (arith, h.long, put.long, rows_apart (span n) few);
        small = λ c a. subst (λ (x : ℕ). x < 2 ^ p) (sym (h.low c (omega (arith, most)))) (number c a (ℕ_discrete c 0));
      }
    where
      number : (c : ℕ) → c < 2 ^ p → Dec (c ≡ 0) → place terms₀ c < 2 ^ p
      number c a (yes z) = omega (arith, ap (place terms₀) z, put.zero_is, pow_pos p)
      number c a (no z) = omega (arith, put.powers.log_lt c (omega arith) a)

  -- one more
  pub listed_more : {w : ℕ} {terms' : List ℕ} → l < duals → DualListed stride bytes n l w terms terms'
      → ListedTo stride bytes n duals terms₀ w (l + 1) terms'
  listed_more {w} {terms'} d more =
      record {
        within = omega arith;
        long = more.long ∙ h.long;
        low = λ k a. more.low k (omega arith) ∙ h.low k a;
        last_is = λ _. one;
        turns_of = λ i a. ⊎_elim
            (λ q. subst (λ (i : ℕ). Turns stride n (dual_of bytes i) terms₀ all (term n terms' i)) (sym q)
            (subst (λ (x : ℕ). Turns stride n (dual_of bytes l) terms₀ x (term n terms' l)) one
            (turns_same more.turns_of (λ j _. sym (h.low _ (omega (arith, ok.symbol l j d, most)))) (λ i _. refl))))
            (λ a. turns_same (h.turns_of i a) (λ j _. refl) (λ k c. more.low (terms_at + span n * i + k) (below i k a (h.turns_of i a).places.few c)))
            (eq-or-lt_of_le (le_of_suc-le-suc (subst (λ (m : ℕ). i < m) (add-one l) a)));
      }
    where
      all : ℕ
      all = weight n (dual_of bytes 0)

      one : w ≡ all
      one = sym (places_weight more.turns_of.places) ∙ ok.one_weight l d

      below : (i k : ℕ) → i < l → all ≤ n → k < all → terms_at + span n * i + k < terms_at + span n * l
      below i k a few c = omega (arith, blocks_fit ok.sizes.n_high, rows_apart (span n) a)

  -- after the last
  module _ (end : duals ≤ l) where
    last-weight : last ≡ weight n (dual_of bytes 0)
    last-weight = h.last_is (omega (arith, ok.duals_low))

    -- the weight fits
    pub last-le : last ≤ n
    last-le = omega (arith, last-weight, (h.turns_of 0 (omega (arith, ok.duals_low))).places.few)

    -- and is put, with the length as before
    pub listed-long : length (set terms 0 last) ≡ length old
    listed-long = length-set terms 0 last ∙ h.long ∙ put.long

    pub listed-end : n + n ≤ stride → TermsOf stride p n duals (dual_of bytes) (set terms 0 last)
    listed-end fits =
        terms_of fits (record { sizes = ok.sizes; few_duals = ok.duals_high; long = omega (arith, listed-long, room); few = few; powers = powers }) rows
      where
        first : place (set terms 0 last) 0 ≡ last
        first = get_or-set_same terms 0 last 0 (omega (arith, h.long, put.long, room))

        after : (k : ℕ) → 0 < k → place (set terms 0 last) k ≡ place terms k
        after k pos = get_or-set_other terms 0 k last 0 (omega arith)

        few : place (set terms 0 last) 0 ≤ n
        few = omega (arith, first, last-le)

        powers : PowersOf p (set terms 0 last)
        powers = powers_same ok.sizes.p_high put.powers (λ k pos a. after k pos ∙ h.low k a)

        rows : (l : ℕ) → l < duals → RowOf stride p n l (dual_of bytes l) (set terms 0 last)
        rows i a =
            record {
              symbol = λ j. ok.symbol i j a;
              turns_of = subst (λ (x : ℕ). Turns stride n (dual_of bytes i) (set terms 0 last) x (term n (set terms 0 last) i)) (sym (first ∙ last-weight))
                  (turns_same (h.turns_of i (omega arith)) (λ j pos. after _ pos ∙ h.low _ (omega (arith, ok.symbol i j a, most)))
                  (λ k _. after (terms_at + span n * i + k) (omega arith)));
            }

-- ---- a room that is kept

-- where the weight is not 0, the terms are listed
pub still_listed : {stride p n duals : ℕ} {b : ℕ → ℕ → ℕ} {terms : List ℕ} → Kept stride p n duals b terms → (weight_in terms ≡ 0 → ⊥)
    → TermsOf stride p n duals b terms
still_listed (unlisted z) h = absurd (h z)
still_listed (already t) h = t
