-- Laws of hexadecimal text: two digits at a time. Assumes nothing.
use Rattle.std.proofs.Common.{◌≡◌, ℕ, suc, ◌+◌, ◌*◌, ◌/◌, ◌%◌, ◌≤◌, ◌<◌, Bool, true, false, ◌&&◌, cond, eqb, ltb}
use Rattle.std.proofs.Common.{Option, Some, None, List, [], ◌∷◌, length, get_or, drop, refl, sym, ap, ◌∙◌, arith, drop-cons, add-one}
use Rattle.std.specs.List.{list_all}
use Rattle.std.specs.Option.{is_some}
use native.Mathlib.Numerals.{add-two}
use borrow.Author.Tests.{le-leb, lt-leb}
use lib.ListN.{drop_of_length-le}
use lib.Seq.{take_at}
use Rattle.records.specs.Area.{over}
use Rattle.passage_lines.specs.Text.{digit_in, digit_of}
use Rattle.passage_lines.specs.Hex.{byte_of_hex, in_front, bytes_of_hex, spells, is_hex, bytes_in, hex_bytes, decode_result, decoded, front_of, within}

-- ---- a text spells bytes where it is an even number of digits

abbrev pub is_digit : ℕ → Bool
is_digit c = is_some (digit_in 16 c)

hex_more : (b : ℕ) (o : Option (List ℕ)) → spells (in_front b o) ≡ spells o
hex_more b None = refl
hex_more b (Some s) = refl

pub is_hex_law : (text : List ℕ) → is_hex text ≡ (eqb (length text % 2) 0 && list_all is_digit text)
unfolding is_hex bytes_of_hex digit_in
is_hex_law [] = refl
is_hex_law (h ∷ []) = refl
is_hex_law (h ∷ l ∷ s) =
    let e : suc (suc (length s)) % 2 ≡ length s % 2 = omega arith in
    rw e (go (ltb (digit_of h) 16) (ltb (digit_of l) 16) (eqb (length s % 2) 0) (is_hex_law s))
  where
    go : (a b t : Bool) → spells (bytes_of_hex s) ≡ (t && list_all is_digit s)
        → spells (cond a (cond b (in_front (digit_of h * 16 + digit_of l) (bytes_of_hex s)) None) None)
        ≡ (t && (is_some (cond a (Some (digit_of h)) None) && (is_some (cond b (Some (digit_of l)) None) && list_all is_digit s)))
    go true true t q = hex_more (digit_of h * 16 + digit_of l) (bytes_of_hex s) ∙ q
    go true false true q = refl
    go true false false q = refl
    go false b true q = refl
    go false b false q = refl

-- ---- the bytes of a text of digits

-- the text at a position where there are two characters more
two_more : (text : List ℕ) (i : ℕ) → i + 2 ≤ length text → drop i text ≡ get_or text i 0 ∷ get_or text (i + 1) 0 ∷ drop (i + 2) text
two_more text i h =
    let a : i < length text = omega arith in
    let b : suc i < length text = omega arith in
    rw (drop-cons text i 0 a, drop-cons text (suc i) 0 b, add-one i, add-two i)

abbrev joined : Option ℕ → Option (List ℕ) → Option (List ℕ)
joined None o = None
joined (Some b) o = in_front b o

joined_is : (h l : ℕ) (s : List ℕ) → bytes_of_hex (h ∷ l ∷ s) ≡ joined (byte_of_hex h l) (bytes_of_hex s)
unfolding bytes_of_hex byte_of_hex
joined_is h l s = go (ltb (digit_of h) 16) (ltb (digit_of l) 16)
  where
    go : (a b : Bool)
        → cond a (cond b (in_front (digit_of h * 16 + digit_of l) (bytes_of_hex s)) None) None
        ≡ joined (cond a (cond b (Some (digit_of h * 16 + digit_of l)) None) None) (bytes_of_hex s)
    go true true = refl
    go true false = refl
    go false b = refl

-- the byte that the two digits at a position spell, and the bytes after it
pub record Pair (text : List ℕ) (i : ℕ) : Type 0 where
  pub byte : ℕ
  pub is : byte_of_hex (get_or text i 0) (get_or text (i + 1) 0) ≡ Some byte
  pub bytes : hex_bytes (drop i text) ≡ byte ∷ hex_bytes (drop (i + 2) text)
  pub rest : is_hex (drop (i + 2) text) ≡ true

pub pair : (text : List ℕ) (i : ℕ) → i + 2 ≤ length text → is_hex (drop i text) ≡ true → Pair text i
unfolding is_hex hex_bytes
pair text i r q = go (byte_of_hex (get_or text i 0) (get_or text (i + 1) 0)) refl (bytes_of_hex (drop (i + 2) text)) refl (sym (ap spells e) ∙ q)
  where
    e : bytes_of_hex (drop i text) ≡ joined (byte_of_hex (get_or text i 0) (get_or text (i + 1) 0)) (bytes_of_hex (drop (i + 2) text))
    e = ap bytes_of_hex (two_more text i r) ∙ joined_is (get_or text i 0) (get_or text (i + 1) 0) (drop (i + 2) text)

    go : (o : Option ℕ) → byte_of_hex (get_or text i 0) (get_or text (i + 1) 0) ≡ o → (p : Option (List ℕ)) → bytes_of_hex (drop (i + 2) text) ≡ p
        → spells (joined o p) ≡ true → Pair text i
    go None a p b x = cc
    go (Some n) a None b x = cc
    go (Some n) a (Some s) b x = record { byte = n; is = a; bytes = ap bytes_in e ∙ rw (a, b); rest = rw b }

pub bytes_end : (text : List ℕ) (i : ℕ) → length text ≤ i → hex_bytes (drop i text) ≡ []
unfolding hex_bytes bytes_of_hex
bytes_end text i h = rw (drop_of_length-le text h)

-- two digits to a byte
spelled_length : (text s : List ℕ) → bytes_of_hex text ≡ Some s → length text ≡ 2 * length s
unfolding bytes_of_hex
spelled_length [] s e = let z : [] ≡ s = cc in omega (arith, ap length z)
spelled_length (h ∷ []) s e = cc
spelled_length (h ∷ l ∷ t) s e = high (ltb (digit_of h) 16) (spelled_length t) e
  where
    Rest : Type 0
    Rest = (u : List ℕ) → bytes_of_hex t ≡ Some u → length t ≡ 2 * length u

    after : (o : Option (List ℕ)) → bytes_of_hex t ≡ o → Rest → in_front (digit_of h * 16 + digit_of l) o ≡ Some s → suc (suc (length t)) ≡ 2 * length s
    after None q f r = cc
    after (Some u) q f r = let z : (digit_of h * 16 + digit_of l) ∷ u ≡ s = cc in omega (arith, ap length z, f u q)

    low : (b : Bool) → Rest → cond b (in_front (digit_of h * 16 + digit_of l) (bytes_of_hex t)) None ≡ Some s → suc (suc (length t)) ≡ 2 * length s
    low true f r = after (bytes_of_hex t) refl f r
    low false f r = cc

    high : (b : Bool) → Rest → cond b (cond (ltb (digit_of l) 16) (in_front (digit_of h * 16 + digit_of l) (bytes_of_hex t)) None) None ≡ Some s → suc (suc (length t)) ≡ 2 * length s
    high true f r = low (ltb (digit_of l) 16) f r
    high false f r = cc

module _ (text : List ℕ) (q : is_hex text ≡ true) where
  pub bytes_length : length text ≡ 2 * length (hex_bytes text)
  unfolding is_hex hex_bytes
  bytes_length = go (bytes_of_hex text) refl q
    where
      go : (o : Option (List ℕ)) → bytes_of_hex text ≡ o → spells o ≡ true → length text ≡ 2 * length (bytes_in o)
      go None e p = cc
      go (Some s) e p = spelled_length text s e

  -- ---- decoding into an area

  spelled_by : bytes_of_hex text ≡ Some (hex_bytes text)
  unfolding is_hex hex_bytes
  spelled_by = go (bytes_of_hex text) q
    where
      go : (o : Option (List ℕ)) → spells o ≡ true → o ≡ Some (bytes_in o)
      go None p = cc
      go (Some s) p = refl

  pub decoded_in : (area out : List ℕ) (n : ℕ) → n ≡ length text / 2 → n ≤ length area → out ≡ over (hex_bytes text) area → decode_result (Some n) out ≡ decoded text area
  unfolding decoded
  decoded_in area out n e h o =
      let l : n ≡ length (hex_bytes text) = omega (arith, bytes_length) in
      rw (spelled_by, o, l, le-leb (length (hex_bytes text)) (length area) (omega arith))

  pub front_in : (area out : List ℕ) (n : ℕ) → n ≡ length text / 2 → n ≤ length area → out ≡ over (hex_bytes text) area → front_of (Some n) out ≡ within (length area) (bytes_of_hex text)
  front_in area out n e h o =
      let l : length (hex_bytes text) ≡ n = omega (arith, bytes_length) in
      rw (spelled_by, o, take_at (hex_bytes text) (drop (length (hex_bytes text)) area) n l, le-leb (length (hex_bytes text)) (length area) (omega arith))

  pub decoded_short : (area : List ℕ) → length area < length text / 2 → decode_result None area ≡ decoded text area
  unfolding decoded
  decoded_short area h = rw (spelled_by, lt-leb (length (hex_bytes text)) (length area) (omega (arith, bytes_length)))

  pub front_short : (area : List ℕ) → length area < length text / 2 → front_of None area ≡ within (length area) (bytes_of_hex text)
  front_short area h = rw (spelled_by, lt-leb (length (hex_bytes text)) (length area) (omega (arith, bytes_length)))

module _ (text area : List ℕ) (q : is_hex text ≡ false) where
  spelled_none : bytes_of_hex text ≡ None
  unfolding is_hex
  spelled_none = go (bytes_of_hex text) q
    where
      go : (o : Option (List ℕ)) → spells o ≡ false → o ≡ None
      go None p = refl
      go (Some s) p = cc

  pub decoded_bad : decode_result None area ≡ decoded text area
  unfolding decoded
  decoded_bad = rw spelled_none

  pub front_bad : front_of None area ≡ within (length area) (bytes_of_hex text)
  front_bad = rw spelled_none
