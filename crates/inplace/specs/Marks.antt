-- What is read of a state, and a state with rows taken out of its owner tables. Assumes nothing.
use Rattle.std.specs.Prelude.{ℕ}
use Rattle.definition.specs.Tables.{Kind, mmio, pio, input, host, device, event, lpi}
use Rattle.tables.specs.Whole.{holders}
use Rattle.tables.specs.declared.Holders.{Holders}
use Rattle.tables.specs.declared.State.{State}
use Rattle.inplace.specs.Cut.{close_ranges, close_inputs}
use Rattle.inplace.specs.declared.marks.Marks.{Marks}

-- the counts of seven tables, and the five numbers beside them
abbrev pub marks_by : Holders → State → Marks
marks_by h s =
    record {
      mmio = h.mmio.n;
      pio = h.pio.n;
      input = h.input.n;
      host = h.host.n;
      device = h.device.n;
      event = h.event.n;
      lpi = h.lpi.n;
      number = s.number;
      index = s.index;
      namespace = s.namespace;
      owner = s.owner;
      detail = s.detail;
    }

abbrev pub marks_of : State → Marks
marks_of s = marks_by s.owners s

abbrev pub reserved_of : State → Marks
reserved_of s = marks_by s.held s

abbrev pub taken_out : Marks → ℕ → State → State
taken_out p whose s =
    record {
      auto = s.auto;
      fixed = s.fixed;
      held = s.held;
      owners =
          holders (close_ranges whose p.mmio s.owners.mmio) (close_ranges whose p.pio s.owners.pio) (close_inputs whose p.input s.owners.input) (close_ranges whose p.host s.owners.host)
          (close_ranges whose p.device s.owners.device) (close_ranges whose p.event s.owners.event) (close_ranges whose p.lpi s.owners.lpi);
      number = s.number;
      index = s.index;
      namespace = s.namespace;
      owner = s.owner;
      detail = s.detail;
    }

-- the counts, by the kind
abbrev pub counts_in : Marks → Kind → ℕ
counts_in m mmio = m.mmio
counts_in m pio = m.pio
counts_in m input = m.input
counts_in m host = m.host
counts_in m device = m.device
counts_in m event = m.event
counts_in m lpi = m.lpi
