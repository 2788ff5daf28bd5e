-- The definition's tests of range rows and pool rows at limits in place of a kind, in the order in which code makes them. KindLaws.antt ties each to the definition. Assumes nothing.
use Rattle.std.specs.Prelude.{Bool, not, ◌&&◌, leb, ltb}
use Rattle.definition.specs.Tables.{pool_limit, row_limit, top, Kind, mmio, input, nature, Span, same_span, Row, same_row, meets, blank_span, blank_row, in_order, used, tidy, sound_table, begins}
use Rattle.tables.specs.Views.{pool_view, ranges_view, inputs_view}
use Rattle.tables.specs.declared.Pool.{Pool}
use Rattle.tables.specs.declared.Ranges.{Ranges}
use Rattle.tables.specs.declared.Inputs.{Inputs}
use Rattle.table_tests.specs.declared.limits.Limits.{Limits}

-- ---- limits

abbrev pub limits_of : Kind → Limits
limits_of kind =
    record {
      floor = (nature kind).floor;
      top = (nature kind).top;
      controller = (nature kind).dom_top.controller;
      its = (nature kind).dom_top.its;
      device = (nature kind).dom_top.device;
    }

-- ---- pool ranges

unfoldable pub good_pool : Limits → Span → Bool
good_pool l p = leb p.dom.controller l.controller && (leb p.dom.its l.its && (ltb p.start p.end && (leb l.floor p.start && leb p.end l.top)))

-- the count is within the size, and unused rows are zero
unfoldable pub tidy_pool : Pool → Bool
tidy_pool t = tidy pool_limit (same_span blank_span) (pool_view t)

unfoldable pub sound_pool_in : Limits → Pool → Bool
sound_pool_in l t = sound_table pool_limit (same_span blank_span) (good_pool l) in_order (pool_view t)

-- ---- range rows

abbrev pub blank_range : Row
blank_range = blank_row mmio

unfoldable pub good_range : Limits → Row → Bool
good_range l r =
    leb r.dom.controller l.controller && (leb r.dom.its l.its && (leb r.dom.device l.device
    && (ltb r.start r.end && (leb l.floor r.start && (leb r.end l.top && (leb r.owner (top 32) && ltb 0 r.owner))))))

abbrev pub apart : Row → Row → Bool
apart a b = not (meets a b)

unfoldable pub tidy_ranges : Ranges → Bool
tidy_ranges t = tidy row_limit (same_row blank_range) (ranges_view t)

-- reservations and owners have one rule: a range is never shared
unfoldable pub sound_ranges_in : Limits → Ranges → Bool
sound_ranges_in l t = sound_table row_limit (same_row blank_range) (good_range l) apart (ranges_view t)

-- reservations and owners together
unfoldable pub holders_in : Limits → Ranges → Ranges → Bool
holders_in l held owners = sound_ranges_in l held && (sound_ranges_in l owners && begins (used (ranges_view held)) (used (ranges_view owners)))

-- ---- wired rows

abbrev pub blank_input : Row
blank_input = blank_row input

unfoldable pub tidy_inputs : Inputs → Bool
tidy_inputs t = tidy row_limit (same_row blank_input) (inputs_view t)
