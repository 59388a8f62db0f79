-- What each command does and prints: "Out: the word and the refusal, or 0 and: buckets slots; slot location;
-- segments record-bytes; value. A get without a hit prints `get none`." Out of turn is "a second open after a good one, put or close without an
-- open builder, get without a finished set".
-- Assumes nothing.
use Rattle.std.specs.Prelude.{ℕ, ◌*◌, Option, Some, None, List, codes}
use Rattle.hash_parts.specs.declared.duration.Duration.{Duration}
use Rattle.hash_parts.specs.declared.setting.SegmentCacheConfig.{SegmentCacheConfig}
use Rattle.records.specs.Area.{spanned}
use Rattle.records.specs.declared.record.Span.{Span}
use Rattle.sets.specs.Answers.{Reply, accept, refuse, Placed}
use Rattle.sets.specs.Build as build
use Rattle.sets.specs.Lookup as lookup
use Rattle.sets.specs.declared.builder.SegmentCacheBuilder.{SegmentCacheBuilder}
use Rattle.sets.specs.declared.cache.FrozenSegmentCache.{FrozenSegmentCache}
use Rattle.passage_lines.specs.Reply.{accepted_text, refused_text, reply_text, value_text}
use Rattle.passage_lines.specs.declared.reply.Word.TheVariants as word
use Rattle.passage.specs.declared.areas.Areas.{Areas}
use Rattle.passage.specs.declared.stage.Answer.{Answer}
use Rattle.passage.specs.declared.stage.Answer.TheVariants.{Line, Value}
use Rattle.passage.specs.declared.stage.Stage.{Stage}
use Rattle.passage.specs.declared.stage.Stage.TheVariants.{Fresh, Building, Finished}

-- the line of an answer
unfoldable pub answer_text : List ℕ → Answer → List ℕ
answer_text arena (Line reply) = reply_text reply
answer_text arena (Value span) = value_text (spanned arena span)

abbrev pub bad_text : List ℕ
bad_text = codes "bad\n"

-- what a command leaves: the state, the line that it prints, and the areas
pub record Answered : Type 0 where
  pub stage : Stage
  pub text : List ℕ
  pub areas : Areas

abbrev pub answered : Stage → List ℕ → Areas → Answered
answered stage text a = record { stage = stage; text = text; areas = a }

abbrev pub answered_by : Stage → Answer → Areas → Answered
answered_by stage r a = answered stage (answer_text a.arena r) a

abbrev pub areas : List ℕ → List ℕ → List ℕ → List ℕ → List ℕ → List ℕ → Areas
areas index filter starts lengths scratch arena =
    record { index = index; filter = filter; starts = starts; lengths = lengths; scratch = scratch; arena = arena }

-- ---- open

-- what open leaves: the state, its line, and the areas that it changes
pub record Opening : Type 0 where
  pub stage : Stage
  pub text : List ℕ
  pub index : List ℕ
  pub filter : List ℕ

abbrev pub opening : Stage → List ℕ → List ℕ → List ℕ → Opening
opening stage text index filter = record { stage = stage; text = text; index = index; filter = filter }

-- "buckets slots"
abbrev pub opened_by : Reply SegmentCacheBuilder (Unit {0}) → List ℕ → List ℕ → Opening
opened_by (accept b) index filter = opening (Building b) (accepted_text word.Open b.bucket_count (b.bucket_count * 8)) index filter
opened_by (refuse n u) index filter = opening Fresh (refused_text word.Open n) index filter

abbrev pub open_answered : build.Opened → Opening
open_answered o = opened_by o.answer o.index o.filter

unfoldable pub open_step : Stage → ℕ → SegmentCacheConfig → List ℕ → List ℕ → List ℕ → List ℕ → List ℕ → Opening
open_step Fresh records config index filter starts lengths arena = open_answered (build.after_open config records index filter starts lengths arena)
open_step (Building b) records config index filter starts lengths arena = opening (Building b) bad_text index filter
open_step (Finished s) records config index filter starts lengths arena = opening (Finished s) bad_text index filter

abbrev pub after_opening : Areas → Opening → Answered
after_opening a o = answered o.stage o.text (areas o.index o.filter a.starts a.lengths a.scratch a.arena)

-- ---- put

pub record Putting : Type 0 where
  pub stage : Stage
  pub text : List ℕ
  pub index : List ℕ
  pub filter : List ℕ
  pub arena : List ℕ

abbrev pub putting : Stage → List ℕ → List ℕ → List ℕ → List ℕ → Putting
putting stage text index filter arena = record { stage = stage; text = text; index = index; filter = filter; arena = arena }

-- "slot location"
abbrev pub put_by : Reply Placed SegmentCacheBuilder → List ℕ → List ℕ → List ℕ → Putting
put_by (accept p) index filter arena = putting (Building p.builder) (accepted_text word.Put p.slot p.location) index filter arena
put_by (refuse n b) index filter arena = putting (Building b) (refused_text word.Put n) index filter arena

abbrev pub put_answered : build.Pushed → Putting
put_answered p = put_by p.answer p.index p.filter p.arena

unfoldable pub put_step : Stage → ℕ → List ℕ → List ℕ → Option Duration → List ℕ → List ℕ → List ℕ → Putting
put_step Fresh hash key value ttl index filter arena = putting Fresh bad_text index filter arena
put_step (Building b) hash key value ttl index filter arena = put_answered (build.after_push b hash key value ttl index filter arena)
put_step (Finished s) hash key value ttl index filter arena = putting (Finished s) bad_text index filter arena

abbrev pub after_putting : Areas → Putting → Answered
after_putting a p = answered p.stage p.text (areas p.index p.filter a.starts a.lengths a.scratch p.arena)

-- ---- close

pub record Closing : Type 0 where
  pub stage : Stage
  pub text : List ℕ
  pub index : List ℕ
  pub starts : List ℕ
  pub lengths : List ℕ
  pub scratch : List ℕ

abbrev pub closing : Stage → List ℕ → List ℕ → List ℕ → List ℕ → List ℕ → Closing
closing stage text index starts lengths scratch = record { stage = stage; text = text; index = index; starts = starts; lengths = lengths; scratch = scratch }

-- "segments record-bytes"
abbrev pub closed_by : Reply FrozenSegmentCache SegmentCacheBuilder → List ℕ → List ℕ → List ℕ → List ℕ → Closing
closed_by (accept s) index starts lengths scratch = closing (Finished s) (accepted_text word.Close s.segments s.record_bytes) index starts lengths scratch
closed_by (refuse n b) index starts lengths scratch = closing (Building b) (refused_text word.Close n) index starts lengths scratch

abbrev pub close_answered : build.Finished → Closing
close_answered f = closed_by f.answer f.index f.starts f.lengths f.scratch

unfoldable pub close_step : Stage → ℕ → List ℕ → List ℕ → List ℕ → List ℕ → List ℕ → Closing
close_step Fresh target index starts lengths scratch arena = closing Fresh bad_text index starts lengths scratch
close_step (Building b) target index starts lengths scratch arena = close_answered (build.after_finish b target index starts lengths scratch arena)
close_step (Finished s) target index starts lengths scratch arena = closing (Finished s) bad_text index starts lengths scratch

abbrev pub after_closing : Areas → Closing → Answered
after_closing a c = answered c.stage c.text (areas c.index a.filter c.starts c.lengths c.scratch a.arena)

-- ---- get

pub record Getting : Type 0 where
  pub text : List ℕ
  pub index : List ℕ

-- "value. A get without a hit prints `get none`."
abbrev pub got_text : List ℕ → Reply (Option Span) (Unit {0}) → List ℕ
got_text arena (accept (Some span)) = value_text (spanned arena span)
got_text arena (accept None) = codes "get none\n"
got_text arena (refuse n u) = refused_text word.Get n

abbrev pub get_answered : List ℕ → lookup.Got → Getting
get_answered arena g = record { text = got_text arena g.answer; index = g.index }

unfoldable pub get_step : Stage → ℕ → List ℕ → ℕ → List ℕ → List ℕ → List ℕ → List ℕ → List ℕ → Getting
get_step Fresh hash key tick index filter starts lengths arena = record { text = bad_text; index = index }
get_step (Building b) hash key tick index filter starts lengths arena = record { text = bad_text; index = index }
get_step (Finished s) hash key tick index filter starts lengths arena =
    get_answered arena (lookup.after_get s hash key tick index filter starts lengths arena)

abbrev pub after_getting : Stage → Areas → Getting → Answered
after_getting stage a g = answered stage g.text (areas g.index a.filter a.starts a.lengths a.scratch a.arena)
