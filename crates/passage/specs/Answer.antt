-- What a line of the input does and prints.
-- Assumes nothing.
use Rattle.std.specs.Prelude.{ℕ, Option, Some, None, List}
use Rattle.hash_parts.specs.declared.duration.Duration.{Duration}
use Rattle.records.specs.Area.{spanned}
use Rattle.passage_lines.specs.Command.{command_of}
use Rattle.passage_lines.specs.Hex.{bytes_of_hex, within}
use Rattle.passage_lines.specs.declared.command.Command.{Command}
use Rattle.passage_lines.specs.declared.command.Command.TheVariants.{Open, Put, Close, Get, Bad}
use Rattle.passage.specs.Stage.{bad_text, Answered, answered, open_step, after_opening, Putting, putting, put_step, after_putting, close_step, after_closing, Getting, get_step, after_getting}
use Rattle.passage.specs.declared.areas.Areas.{Areas}
use Rattle.passage.specs.declared.stage.Stage.{Stage}

-- a put with key and value, and a get with a key
abbrev pub put_bytes : Stage → ℕ → Option Duration → List ℕ → List ℕ → List ℕ → Option (List ℕ) → Option (List ℕ) → Putting
put_bytes s hash ttl index filter arena None v = putting s bad_text index filter arena
put_bytes s hash ttl index filter arena (Some key) None = putting s bad_text index filter arena
put_bytes s hash ttl index filter arena (Some key) (Some value) = put_step s hash key value ttl index filter arena

abbrev pub get_bytes : Stage → ℕ → ℕ → List ℕ → List ℕ → List ℕ → List ℕ → List ℕ → Option (List ℕ) → Getting
get_bytes s hash tick index filter starts lengths arena None = record { text = bad_text; index = index }
get_bytes s hash tick index filter starts lengths arena (Some key) = get_step s hash key tick index filter starts lengths arena

-- a put and a get with the texts of key and value, by the room that the areas for them have
abbrev pub put_texts : Stage → ℕ → Option Duration → List ℕ → List ℕ → ℕ → ℕ → Areas → Answered
put_texts s hash ttl key_text value_text key_room value_room a =
    after_putting a
    (put_bytes s hash ttl a.index a.filter a.arena (within key_room (bytes_of_hex key_text)) (within value_room (bytes_of_hex value_text)))

abbrev pub get_text : Stage → ℕ → ℕ → List ℕ → ℕ → Areas → Answered
get_text s hash tick key_text key_room a =
    after_getting s a (get_bytes s hash tick a.index a.filter a.starts a.lengths a.arena (within key_room (bytes_of_hex key_text)))

-- a command of a line, by the room that the areas for key and value have
abbrev pub command_step : Stage → List ℕ → ℕ → ℕ → Areas → Command → Answered
command_step s line key_room value_room a (Open records config) =
    after_opening a (open_step s records config a.index a.filter a.starts a.lengths a.arena)
command_step s line key_room value_room a (Put hash key value ttl) = put_texts s hash ttl (spanned line key) (spanned line value) key_room value_room a
command_step s line key_room value_room a (Close target) = after_closing a (close_step s target a.index a.starts a.lengths a.scratch a.arena)
command_step s line key_room value_room a (Get hash key tick) = get_text s hash tick (spanned line key) key_room a
command_step s line key_room value_room a Bad = answered s bad_text a

-- a line: "A line of another form, [..] or out of turn [..] prints `bad`."
unfoldable pub line_step : Stage → List ℕ → ℕ → ℕ → Areas → Answered
line_step s line key_room value_room a = command_step s line key_room value_room a (command_of line)
