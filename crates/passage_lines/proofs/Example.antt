-- The example of the README: what its lines say, and what the lines of its output are. Some lines of other forms. Assumes nothing.
use mathlib.Core.Path.{◌≡◌, refl}
use mathlib.Core.Bool.{Bool, true, false, cond}
use mathlib.Core.List.{List, [], ◌∷◌}
use Prim.Native.Nat.{ℕ}
use Rattle.hash_parts.specs.declared.error.SegmentCacheBuildError.TheVariants.{DuplicateKey}
use Rattle.std.proofs.Common.{Some, None}
use Rattle.hash_parts.specs.declared.setting.SegmentExpiry.TheVariants as expiry
use Rattle.std.specs.Prelude.{codes}
use Rattle.passage_lines.specs.Command.{next, done, setting, setting_form, open_form, put_form, close_form, get_form, word_form, command_of}
use Rattle.passage_lines.specs.Fields.{split, fields_of}
use Rattle.passage_lines.specs.Hex.{bytes_of_hex, is_hex, hex_length}
use Rattle.texts.specs.Output.{digits_in, decimal_text, hex_text}
use Rattle.passage_lines.specs.Reply.{bytes_text, reply_text, value_text}
use Rattle.passage_lines.specs.Text.{digit_of, spelled, number_in, duration_of, layout_of, tick_length_of, lifetime_of}
use Rattle.passage_lines.specs.declared.command.Command.{Command}
use Rattle.passage_lines.specs.declared.command.Command.TheVariants.{Open, Put, Close, Get, Bad}
use Rattle.passage_lines.specs.declared.reply.Reply.TheVariants.{Refused, Accepted}
use Rattle.passage_lines.specs.declared.reply.Word.TheVariants as W

-- ---- the lines of the example

open_line : command_of (codes "open 2 7 packed 0 1.000000000") ≡ Open 2 (setting (expiry.Relative16 (record { secs = 1; nanos = 0 })) 7 true 0)
unfolding command_of fields_of split word_form open_form setting_form next done digit_of spelled number_in duration_of layout_of tick_length_of
open_line = refl

put_line : command_of (codes "put 1 61 4142 9.500000000")
    ≡ Put 1 (record { at = 6; len = 2 }) (record { at = 9; len = 4 }) (Some (record { secs = 9; nanos = 500_000_000 }))
unfolding command_of fields_of split word_form put_form next done digit_of spelled number_in duration_of lifetime_of bytes_of_hex is_hex hex_length
put_line = refl

put_never_line : command_of (codes "put 2 62 - never") ≡ Put 2 (record { at = 6; len = 2 }) (record { at = 9; len = 0 }) None
unfolding command_of fields_of split word_form put_form next done digit_of spelled number_in lifetime_of bytes_of_hex is_hex hex_length
put_never_line = refl

close_line : command_of (codes "close 4096") ≡ Close 4096
unfolding command_of fields_of split word_form close_form next done digit_of spelled number_in
close_line = refl

get_line : command_of (codes "get 2 62 70000") ≡ Get 2 (record { at = 6; len = 2 }) 70000
unfolding command_of fields_of split word_form get_form next done digit_of spelled number_in bytes_of_hex is_hex hex_length
get_line = refl

opened : reply_text (Accepted W.Open 1 8) ≡ codes "open 0 1 8\n"
unfolding reply_text decimal_text digits_in
opened = refl

put_refused : reply_text (Refused W.Put DuplicateKey) ≡ codes "put 4\n"
unfolding reply_text decimal_text digits_in
put_refused = refl

value_line : value_text (0x41 ∷ 0x42 ∷ []) ≡ codes "get 0 4142\n"
unfolding value_text bytes_text hex_text
value_line = refl

no_value_line : value_text [] ≡ codes "get 0 -\n"
unfolding value_text bytes_text
no_value_line = refl

-- ---- lines of other forms

abbrev is_bad : Command → Bool
is_bad (Open records config) = false
is_bad (Put h key value ttl) = false
is_bad (Close target) = false
is_bad (Get h key tick) = false
is_bad Bad = true

all_bad : List (List ℕ) → Bool
all_bad [] = true
all_bad (line ∷ lines) = cond (is_bad (command_of line)) (all_bad lines) false

-- a number past its width; a sign; an empty field, one too many, one too few, a space at an end; large letters, an odd number of digits, `-` as
-- a hash; eight and ten digits after the point, `never` as a tick length, `none` as a lifetime; a tab
other_forms : all_bad
    (codes "close 18446744073709551616"
    ∷ codes "open 1 256 packed 0 none"
    ∷ codes "get 10000000000000000 61 0"
    ∷ codes "close +1"
    ∷ codes ""
    ∷ codes "close  1"
    ∷ codes "close 1 1"
    ∷ codes "close"
    ∷ codes "close 1 "
    ∷ codes " close 1"
    ∷ codes "get 1 6A 0"
    ∷ codes "get 1 616 0"
    ∷ codes "get - 61 0"
    ∷ codes "put 1 61 62 1.00000000"
    ∷ codes "put 1 61 62 1.0000000000"
    ∷ codes "open 1 7 packed 0 never"
    ∷ codes "put 1 61 62 none"
    ∷ codes "close\t1"
    ∷ [])
    ≡ true
unfolding command_of fields_of split word_form open_form setting_form put_form close_form get_form next done digit_of spelled number_in duration_of
    layout_of tick_length_of lifetime_of bytes_of_hex is_hex hex_length all_bad
other_forms = refl
