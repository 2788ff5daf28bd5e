-- 01's example, small texts that tell the rules apart, and lines that are refused: two tables, one claim each. Assumes nothing.
use Rattle.std.specs.Prelude.{◌≡◌, refl, Bool, true, false, List, [], ◌∷◌, map, ℕ, suc, replicate}
use Rattle.std.proofs.Math.Option.{Option, none, some}
use Prim.Native.String.{String}
use Rattle.definition.specs.Base.{any_of, all_of, pairs_of, first_of, lower, least_of, require}
use Rattle.definition.specs.Tables.{same_dom, within, same_kind, same_span, same_row, overlap, meets, joins, clash, tidy, fits, fits_span, floored, good_row, good_span, begins, in_order, sound_table}
use Rattle.definition.specs.Pools.{insert, there, entered, has_place, admit, rows_of, room, unreserved, all_unreserved, reserve}
use Rattle.definition.specs.Request.{good_choice, one_bit, good_want, good_request, row_at, aligned, holds, free, align_up, candidates, lowest, allowed, unjoined, obstacle, detail, found, unopposed, place, claims, resolve}
use Rattle.definition.specs.Calls.{Call, given_at, sound_at, given, sound, push_all, entering, serve}
use Rattle.definition.specs.Plan.{record_of_grant, allocate_into}
use Rattle.lines.specs.Base.{text_limit, bytes, same, grow, split, when, ◌and_then◌, ◌or_else◌}
use Rattle.lines.specs.Numbers.{value_from, plain, number, digits_up_to, digits}
use Rattle.lines.specs.Forms.{entry, numbers, form, tries, ◌gives◌}
use Rattle.lines.specs.Line.{behind, line_with, use_of, behind_pool, behind_hold, behind_want, by_word, by_fields, read_line}
use Rattle.lines.specs.Output.{carried_by, got_line, got_lines, end_line, no_line}
use Rattle.lines.specs.Text.{set_up, opened, answered, ask, step, feed_parts, feed, unfinished, close, answer, ended, output}

-- a text, and all that is written
pub record Case : Type 0 where
  pub text : List ℕ
  pub written : List ℕ

abbrev case : String → String → Case
case t w = record { text = bytes t; written = bytes w }

-- a text of n blanks
abbrev blanks : ℕ → String → Case
blanks n w = record { text = replicate n 32; written = bytes w }

abbrev cases : List Case
cases =
    -- 01's example
    case "pool\tauto\tmmio\t4096\t12288\nhold\t7\tmmio\t4096\t8192\nwant\t3\t1\tmmio\t256\t256\tauto\n" "got\t3\t1\tmmio\t8192\t256\nend\t1\n"
    -- the empty text
    ∷ case "" "end\t0\n"
    -- an unfinished last line
    ∷ case "pool\tauto\thost\t4\t9\npool" "no\t2\t10\t0\t0\t0\n"
    -- the first refused line decides: Reserved at line 2, nonsense at line 3
    ∷ case "hold\t7\tpio\t1\t9\nhold\t8\tpio\t8\t10\nnonsense\n" "no\t2\t5\t0\t7\t0\n"
    -- .. and an unfinished line after a refused one is not looked at
    ∷ case "hold\t0\tlpi\t1\t5\t6\npool" "no\t1\t3\t0\t0\t0\n"
    -- 10 before any other number: the end is too large for its field
    ∷ case "hold\t0\tpio\t5\t65536\n" "no\t1\t10\t0\t0\t0\n"
    -- a code too large for its meaning is 2, before the owner 0
    ∷ case "hold\t0\tinput\t1\t1\t4\t0\n" "no\t1\t2\t0\t0\t0\n"
    -- no `pool` after a `want`
    ∷ case "pool\tauto\thost\t4\t9\nwant\t1\t0\thost\tauto\npool\tauto\thost\t4\t9\n" "no\t3\t10\t0\t0\t0\n"
    -- a Shared input is joined, and real zeros stay
    ∷ case "pool\tfixed\tinput\t0\t0\t9\nhold\t5\tinput\t0\t0\t0\t1\nwant\t1\t0\tinput\t0\t0\t1\t0\n" "got\t1\t0\tinput\t0\t0\t0\t1\nend\t1\n"
    -- all of them zero
    ∷ case "pool\tauto\tinput\t0\t0\t9\nwant\t1\t0\tinput\t0\t0\t0\tauto\n" "got\t1\t0\tinput\t0\t0\t0\t0\nend\t1\n"
    -- msi with `auto`, and with three numbers
    ∷ case "pool\tauto\tmsi\t1\t2\t8\t10\t0\t4\t8192\t8200\npool\tfixed\tmsi\t1\t2\t8\t10\t0\t4\t8192\t8200\nwant\t3\t0\tmsi\t1\t2\t2\tauto\nwant\t3\t0\tmsi\t1\t2\t2\t9\t0\t8194\n" "got\t3\t0\tmsi\t1\t2\t8\t0\t8192\t2\ngot\t3\t0\tmsi\t1\t2\t9\t0\t8194\t2\nend\t2\n"
    -- two of three numbers
    ∷ case "want\t3\t0\tmsi\t1\t2\t2\t9\t0\n" "no\t1\t10\t0\t0\t0\n"
    -- `auto` among them
    ∷ case "want\t3\t0\tmsi\t1\t2\t2\t9\tauto\t8194\n" "no\t1\t10\t0\t0\t0\n"
    -- pio and host IRQs
    ∷ case "pool\tauto\tpio\t0\t65535\npool\tauto\thost\t40\t42\nwant\t1\t1\tpio\t8\t8\tauto\nwant\t1\t2\thost\tauto\n" "got\t1\t1\tpio\t0\t8\ngot\t1\t2\thost\t40\nend\t2\n"
    -- a fixed request in a held place: namespace, owner, detail
    ∷ case "pool\tfixed\tmmio\t0\t32768\nhold\t9\tmmio\t12288\t16384\nwant\t1\t1\tmmio\t8192\t4096\t8192\n" "no\t3\t8\t1\t9\t1\n"
    -- the largest number of 64 bits is a number
    ∷ case "hold\t4294967295\tmmio\t18446744073709551614\t18446744073709551615\nwant\t1\t1\thost\tauto\n" "no\t2\t7\t4\t0\t0\n"
    -- the longest text is read, and ends in an unfinished line
    ∷ blanks text_limit "no\t1\t10\t0\t0\t0\n"
    -- one more is too many, before all else
    ∷ blanks (suc text_limit) "no\t0\t10\t0\t0\t0\n"
    ∷ []

outputs : map (λ c. output c.text) cases ≡ map (λ c. c.written) cases
unfolding lib.Count.ones_in any_of all_of pairs_of first_of lower least_of same_dom within same_kind same_span same_row overlap meets joins clash require tidy fits fits_span floored good_row good_span begins in_order sound_table insert there entered has_place admit rows_of room unreserved all_unreserved reserve good_choice one_bit good_want good_request row_at aligned holds free align_up candidates lowest allowed unjoined obstacle detail found unopposed place claims resolve given_at sound_at given sound push_all entering serve record_of_grant allocate_into same grow split when ◌and_then◌ ◌or_else◌ value_from plain number digits_up_to digits behind line_with entry numbers form ◌gives◌ tries use_of behind_pool behind_hold behind_want by_word by_fields read_line carried_by got_line got_lines end_line no_line set_up opened answered ask step feed_parts feed unfinished close answer ended output
outputs = refl

-- lines that are 10, each for one fault
abbrev bad_lines : List String
bad_lines =
    -- one more
    "want\t1\t1\thost\t18446744073709551616"
    -- a leading zero
    ∷ "want\t1\t01\thost\tauto"
    -- a sign
    ∷ "want\t+1\t1\thost\tauto"
    -- upper case
    ∷ "want\t1\t1\thost\tAuto"
    -- a trailing tab
    ∷ "want\t1\t1\thost\tauto\t"
    -- two tabs
    ∷ "want\t1\t\thost\tauto"
    -- a blank
    ∷ "want 1\t1\thost\tauto"
    -- CR
    ∷ "want\t1\t1\thost\tauto\r"
    -- an empty line
    ∷ ""
    ∷ []

abbrev missing : Option Call → Bool
missing none = true
missing (some call) = false

none_says_a_call : map (λ l. missing (read_line (bytes l))) bad_lines ≡ map (λ l. true) bad_lines
unfolding all_of same grow split when ◌and_then◌ ◌or_else◌ value_from plain number entry numbers form ◌gives◌ tries use_of behind_pool behind_hold behind_want by_word by_fields read_line
none_says_a_call = refl
