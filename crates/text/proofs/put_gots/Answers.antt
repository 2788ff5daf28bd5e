-- The `got` lines of several records: one line more. Assumes nothing.
use Rattle.std.proofs.Common.{◌*◌, drop, length-drop, arith}
use Rattle.definition.specs.Tables.{record_size}
use Rattle.lines.specs.Output.{got_line}
use Rattle.writers.specs.Put.{Puts}
use Rattle.writers.proofs.EachLaws.{rest_is}
use Rattle.text.proofs.GotLaws.{gots_none, gots_room, gots_turn}
use Rattle.text.proofs.put_gots.Goals as goal

pub loop-i-init : goal.loop-i-init
loop-i-init c = gots_none c.args.page.now c.args.results.now

pub put_got-requires : goal.put_got-requires
put_got-requires c =
    let a = c.args in
    let l = c.loop-i in
    rw (rest_is a.results.now (record_size * l.i)) record {
      whole = omega (arith, length-drop (record_size * l.i) a.results.now, c.requires.whole);
      room = gots_room a.page.now a.results.now l.i l.page l.invariant a.n (omega arith) c.requires.room;
    }

pub loop-i-preserved : goal.loop-i-preserved
loop-i-preserved c =
    let a = c.args in
    let l = c.loop-i in
    let put : Puts l.page (got_line (drop (record_size * l.i) a.results.now)) c.put_got.new.self = rw (rest_is a.results.now (record_size * l.i)) at c.put_got.ensures in
    gots_turn a.page.now a.results.now l.i l.page l.invariant c.put_got.new.self put
