-- What comes of the tables' answers, and what is stored. Assumes nothing.
use Rattle.std.specs.Prelude.{Bool, true, false, not, ℕ, eqb, Option, Some, None, Ok, Err}
use Rattle.definition.specs.Tables.{Span, Table}
use Rattle.tables.specs.Views.{span_of}
use Rattle.insert.specs.Answers.{Reply, entered_or, earlier_of}
use Rattle.request.specs.declared.call.Use.{Use}
use Rattle.request.specs.declared.call.Use.TheVariants as U
use Rattle.tables.specs.declared.PoolRow.{PoolRow}
use Rattle.tables.specs.declared.RangeRow.{RangeRow}
use Rattle.tables.specs.declared.InputRow.{InputRow}
use Rattle.tables.specs.declared.Kind.{Kind}
use Rattle.tables.specs.declared.Kind.TheVariants as K
use Rattle.adding.specs.Adds.{pick, keep_if, ranges_in, rows_in, inputs_in}
use Rattle.adding.specs.declared.Adds.{Adds}
use Rattle.adding.specs.declared.Adds.TheVariants as A
use Rattle.adding.specs.declared.Replies.{Replies}
use Rattle.adding.specs.declared.Verdict.{Verdict}

abbrev pub judged : Adds → Reply → Verdict
judged q r = record { adds = q; reply = r }

abbrev pub reply_at : Replies → Kind → Reply
reply_at r K.Mmio = r.mmio
reply_at r K.Pio = r.pio
reply_at r K.Input = r.input
reply_at r K.Host = r.host
reply_at r K.Device = r.device
reply_at r K.Event = r.event
reply_at r K.Lpi = r.lpi

-- of the tables that are asked the answer whose turn comes first
abbrev pub earliest_of : Adds → Replies → Reply
earliest_of (A.Range u k p) r = reply_at r k
earliest_of (A.Domain u d e l) r = earlier_of r.device (earlier_of r.event r.lpi)
earliest_of (A.Row k p) r = reply_at r k
earliest_of (A.Input w) r = r.input
earliest_of (A.Pair w p) r = earlier_of r.input r.host

abbrev pub verdict_of : Adds → Replies → Verdict
verdict_of q r = judged q (earliest_of q r)

-- ---- the rows that are stored: all rows of a call that is accepted, and none of one that is refused

abbrev pub accepts : Reply → Bool
accepts (Ok given) = true
accepts (Err y) = false

abbrev pub use_number : Use → ℕ
use_number U.Automatic = 1
use_number U.Fixed = 2

abbrev pub same_to : Use → Use → Bool
same_to a b = eqb (use_number a) (use_number b)

-- no range is for the pools of a use
abbrev pub idle_of : Adds → Use → Bool
idle_of (A.Range u k r) to = not (same_to u to)
idle_of (A.Domain u d e l) to = not (same_to u to)
idle_of (A.Row k r) to = true
idle_of (A.Input w) to = true
idle_of (A.Pair w r) to = true

-- the range, where it is for the use
abbrev pub for_use : Use → Option (Use × PoolRow) → Option PoolRow
for_use to (Some q) = keep_if (same_to q.0 to) q.1
for_use to None = None

abbrev pub pool_put_of : Verdict → Use → Kind → Option PoolRow
pool_put_of v to k = pick (accepts v.reply) (for_use to (ranges_in v.adds k)) None

abbrev pub held_put_of : Verdict → Kind → Option RangeRow
held_put_of v k = pick (accepts v.reply) (rows_in v.adds k) None

abbrev pub input_put_of : Verdict → Option InputRow
input_put_of v = pick (accepts v.reply) (inputs_in v.adds) None

-- a pool table with the range, or as it was
abbrev pub entered_view : Option PoolRow → Table Span → Table Span
entered_view (Some r) t = entered_or (span_of r) t
entered_view None t = t
