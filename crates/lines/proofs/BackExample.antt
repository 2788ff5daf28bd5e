-- C-11's theorems applied to one text: all kinds, a repeated pool line, pools and holds mixed, automatic wants and one that asks for its number. Assumes nothing.
use mathlib.Core.Path.{◌≡◌, refl}
use mathlib.Core.Bool.{true}
use mathlib.Core.List.{List, [], ◌∷◌, ◌++◌}
use Prim.Native.Nat.{ℕ, ◌≤◌}
use Prim.Native.String.{String}
use lib.Dec.{lit≤}
use lib.ListN.{length}
use Rattle.definition.specs.Base.{any_of, all_of, pairs_of, first_of, lower, least_of, require}
use Rattle.definition.specs.Tables.{same_kind, same_dom, within, same_span, same_row, overlap, meets, joins, clash, tidy, fits, fits_span, floored, good_row, good_span, begins, in_order, sound_table}
use Rattle.definition.specs.Pools.{insert, there, entered, has_place, admit, rows_of, room, unreserved, all_unreserved, reserve, ◌⊕◌}
use Rattle.definition.specs.Request.{good_choice, one_bit, good_want, good_request, row_at, aligned, holds, free, align_up, candidates, lowest, allowed, unjoined, obstacle, detail, found, unopposed, place, claims, resolve}
use Rattle.definition.specs.Calls.{pools_of, given_at, sound_at, given, sound, push_all, entering, serve}
use Rattle.definition.specs.Plan.{run, record_of_grant, records, allocate_into, pin_want, pinned}
use Rattle.definition.proofs.RequestLaws.{AutoInFixed, inside_one, auto_in_fixed, inside_says}
use Rattle.definition.proofs.ReplayLaws.{now, later, Pick, stop, pick}
use Rattle.definition.proofs.PickLaws.{indices}
use Rattle.lines.specs.Base.{text_limit, bytes, same, grow, split, when, ◌and_then◌, ◌or_else◌}
use Rattle.lines.specs.Numbers.{value_from, plain, number, digits_up_to, digits}
use Rattle.lines.specs.Forms.{entry, numbers, form, tries, ◌gives◌, field_of, fields_of}
use Rattle.lines.specs.Line.{behind, line_with, use_of, behind_pool, behind_hold, behind_want, by_word, by_fields, read_line, line_from, line_of}
use Rattle.lines.specs.Output.{carried_by, got_line, got_lines, end_line}
use Rattle.lines.specs.Text.{accepts, set_up, opened, answered, ask, step, feed_parts, feed, unfinished, close, ended, output}
use Rattle.lines.specs.Back.{calls_of, calls, heads, wants, served, set_up_by, grants, pinned_calls, lines_of, back}
use Rattle.lines.proofs.BackLaws.{ReadBack, read_back}
use Rattle.lines.proofs.ReplayTextLaws.{Again, selection, same_answers}

-- the pools and holds: the second `pool auto mmio` line repeats the first, and the third hold stands between pools
abbrev head : String
head = "pool\tauto\tmmio\t4096\t12288\nhold\t7\tmmio\t4096\t6144\npool\tauto\tmmio\t4096\t12288\npool\tfixed\tmmio\t0\t65536\npool\tauto\tpio\t96\t112\npool\tfixed\tpio\t96\t112\nhold\t7\tinput\t1\t32\t0\t1\npool\tauto\tinput\t1\t32\t34\npool\tfixed\tinput\t1\t32\t34\npool\tauto\thost\t40\t42\nhold\t7\thost\t40\t41\npool\tfixed\thost\t40\t42\npool\tauto\tmsi\t1\t2\t8\t10\t0\t4\t8192\t8200\npool\tfixed\tmsi\t1\t2\t8\t10\t0\t4\t8192\t8200\n"

text : List ℕ
text = bytes head ++ bytes "want\t3\t1\tmsi\t1\t2\t2\tauto\nwant\t3\t2\tinput\t1\t0\t1\tauto\nwant\t4\t0\tinput\t1\t0\t1\t32\nwant\t3\t3\tmmio\t256\t256\tauto\nwant\t3\t4\tpio\t4\t4\tauto\nwant\t3\t5\thost\tauto\nwant\t4\t1\tmsi\t1\t2\t1\tauto\n"

-- the same with the numbers granted
pinned_text : List ℕ
pinned_text = bytes head ++ bytes "want\t3\t1\tmsi\t1\t2\t2\t8\t0\t8192\nwant\t3\t2\tinput\t1\t0\t1\t33\nwant\t4\t0\tinput\t1\t0\t1\t32\nwant\t3\t3\tmmio\t256\t256\t6144\nwant\t3\t4\tpio\t4\t4\t96\nwant\t3\t5\thost\t41\nwant\t4\t1\tmsi\t1\t2\t1\t9\t0\t8194\n"

accepted_text : accepts (ended text).said ≡ true
unfolding text lib.Count.ones_in any_of all_of pairs_of first_of lower least_of same_dom within same_kind same_span same_row overlap meets joins clash require tidy fits fits_span floored good_row good_span begins in_order sound_table insert there entered has_place admit rows_of room unreserved all_unreserved reserve good_choice one_bit good_want good_request row_at aligned holds free align_up candidates lowest allowed unjoined obstacle detail found unopposed place claims resolve given_at sound_at given sound push_all entering serve record_of_grant allocate_into same grow split when ◌and_then◌ ◌or_else◌ value_from plain number entry numbers form ◌gives◌ tries use_of behind_pool behind_hold behind_want by_word by_fields read_line set_up opened answered ask step feed_parts feed unfinished close ended
accepted_text = refl

-- what is written, byte for byte
written_text : back text ≡ pinned_text
unfolding text pinned_text lib.Count.ones_in any_of all_of pairs_of first_of lower least_of same_dom within same_kind same_span same_row overlap meets joins clash require tidy fits fits_span floored good_row good_span begins in_order sound_table insert there entered has_place admit rows_of room unreserved all_unreserved reserve good_choice one_bit good_want good_request row_at aligned holds free align_up candidates lowest allowed unjoined obstacle detail found unopposed place claims resolve given_at sound_at given sound push_all entering serve run ◌⊕◌ pin_want pinned same grow split when ◌and_then◌ ◌or_else◌ value_from plain number digits_up_to digits behind entry numbers form ◌gives◌ tries use_of behind_pool behind_hold behind_want by_word by_fields read_line field_of fields_of line_from line_of calls_of calls heads wants served set_up_by grants pinned_calls lines_of back
written_text = refl

-- .. is read as what was meant
read_again : ReadBack text
read_again = read_back text accepted_text

-- ---- demand 3: the second MSI want, the ports, the shared input and the first MSI want, in this order

chosen : List ℕ
chosen = 6 ∷ 4 ∷ 2 ∷ 0 ∷ []

picked : Pick chosen (indices 0 7)
unfolding chosen indices
picked = pick (later (later (later (later (later (later now)))))) (pick (later (later (later (later now)))) (pick (later (later now)) (pick now stop)))

inside : AutoInFixed (pools_of (set_up_by text))
unfolding auto_in_fixed inside_one text lib.Count.ones_in any_of all_of pairs_of first_of lower least_of same_dom within same_kind same_span same_row overlap meets joins clash require tidy fits fits_span floored good_row good_span begins in_order sound_table insert there entered has_place admit rows_of room unreserved all_unreserved reserve good_choice one_bit good_want good_request row_at aligned holds free align_up candidates lowest allowed unjoined obstacle detail found unopposed place claims resolve given_at sound_at given sound push_all entering serve run ◌⊕◌ pin_want pinned same grow split when ◌and_then◌ ◌or_else◌ value_from plain number digits_up_to digits behind entry numbers form ◌gives◌ tries use_of behind_pool behind_hold behind_want by_word by_fields read_line field_of fields_of line_from line_of calls_of calls heads wants served set_up_by grants pinned_calls lines_of back
inside = inside_says (pools_of (set_up_by text)) tt

short : length (back text) ≤ text_limit
unfolding pinned_text
short = rw written_text (lit≤ tt)

again : Again text chosen
unfolding text all_of same grow split when ◌and_then◌ ◌or_else◌ value_from plain number entry numbers form ◌gives◌ tries use_of behind_pool behind_hold behind_want by_word by_fields read_line calls_of calls wants
again = record { was_accepted_is = accepted_text; was_written = short; inside = inside; picked = picked }

-- the text of these lines
selected : selection text chosen ≡ bytes head ++ bytes "want\t4\t1\tmsi\t1\t2\t1\t9\t0\t8194\nwant\t3\t4\tpio\t4\t4\t96\nwant\t4\t0\tinput\t1\t0\t1\t32\nwant\t3\t1\tmsi\t1\t2\t2\t8\t0\t8192\n"
unfolding chosen text lib.Count.ones_in any_of all_of pairs_of first_of lower least_of same_dom within same_kind same_span same_row overlap meets joins clash require tidy fits fits_span floored good_row good_span begins in_order sound_table insert there entered has_place admit rows_of room unreserved all_unreserved reserve good_choice one_bit good_want good_request row_at aligned holds free align_up candidates lowest allowed unjoined obstacle detail found unopposed place claims resolve given_at sound_at given sound push_all entering serve run ◌⊕◌ pin_want pinned same grow split when ◌and_then◌ ◌or_else◌ value_from plain number digits_up_to digits behind entry numbers form ◌gives◌ tries use_of behind_pool behind_hold behind_want by_word by_fields read_line field_of fields_of line_from line_of calls_of calls heads wants served set_up_by grants pinned_calls lines_of back
selected = refl

-- .. is answered with the numbers that they had
answers : output (selection text chosen) ≡ bytes "got\t4\t1\tmsi\t1\t2\t9\t0\t8194\t1\ngot\t3\t4\tpio\t96\t4\ngot\t4\t0\tinput\t1\t32\t0\t1\ngot\t3\t1\tmsi\t1\t2\t8\t0\t8192\t2\nend\t4\n"
unfolding chosen record_of_grant records line_with carried_by got_line got_lines end_line text lib.Count.ones_in any_of all_of pairs_of first_of lower least_of same_dom within same_kind same_span same_row overlap meets joins clash require tidy fits fits_span floored good_row good_span begins in_order sound_table insert there entered has_place admit rows_of room unreserved all_unreserved reserve good_choice one_bit good_want good_request row_at aligned holds free align_up candidates lowest allowed unjoined obstacle detail found unopposed place claims resolve given_at sound_at given sound push_all entering serve run ◌⊕◌ pin_want pinned same grow split when ◌and_then◌ ◌or_else◌ value_from plain number digits_up_to digits behind entry numbers form ◌gives◌ tries use_of behind_pool behind_hold behind_want by_word by_fields read_line field_of fields_of line_from line_of calls_of calls heads wants served set_up_by grants pinned_calls lines_of back
answers = same_answers text chosen again
