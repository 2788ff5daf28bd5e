-- Small inputs that tell the rules of a line and of a field apart, and all that is written for them. Assumes nothing.
use Rattle.std.specs.Prelude.{◌≡◌, refl, List, [], ◌∷◌, map, ℕ}
use Prim.Native.String.{String}
use Rattle.definition.specs.Base.{all_of, require}
use Rattle.definition.specs.Registers.{memory_of, register_of, upper_ones, topped, good_mask, size_of, asked, asked_at, asked_from, registers}
use Rattle.lines.specs.Base.{bytes, same, grow, split, when, ◌and_then◌, ◌or_else◌}
use Rattle.lines.specs.Numbers.{plain, digits_up_to, digits}
use Rattle.lines.specs.Forms.{field_of, fields_of}
use Rattle.lines.specs.Line.{behind, line_with, line_from, line_of}
use Rattle.lines.specs.Output.{no_line}
use Rattle.sizer.specs.Words.{digit_value, said_in, decimal, hexadecimal, word, fields, line_by}
use Rattle.sizer.specs.Sizes.{want_lines, sizes_output}

-- an input, and all that is written
pub record Case : Type 0 where
  pub text : List ℕ
  pub written : List ℕ

abbrev case : String → String → Case
case t w = record { text = bytes t; written = bytes w }

abbrev cases : List Case
cases =
    -- memory, ports, a pair and its high half; hexadecimal in either case, and decimal
    case "0xFFFFF000\t0xFFFFFF01\t0\t0xfff0000c\t0xffffffff\t4294967040\t7\n" "want\t7\t0\tmmio\t4096\t4096\tauto\nwant\t7\t1\tpio\t256\t256\tauto\nwant\t7\t3\tmmio\t1048576\t1048576\tauto\nwant\t7\t5\tmmio\t256\t256\tauto\n"
    -- no register at all
    ∷ case "0\t0\t0x00000000\t0\t0\t0\t7\n" ""
    -- the first fault decides: 17, and 14 behind it
    ∷ case "0x00000001\t2\t0\t0\t0\t0\t7\n" "no\t0\t17\t0\t0\t0\n"
    -- a requester of 0, and one above 32 bits, before any word
    ∷ case "2\t0\t0\t0\t0\t0\t0\n" "no\t0\t2\t0\t0\t0\n"
    ∷ case "2\t0\t0\t0\t0\t0\t4294967296\n" "no\t0\t2\t0\t0\t0\n"
    -- a word above 32 bits, and above 64 bits: a number, but 2
    ∷ case "0x100000000\t0\t0\t0\t0\t0\t7\n" "no\t0\t2\t0\t0\t0\n"
    ∷ case "0\t0\t0\t0\t0\t100000000000000000000000000\t7\n" "no\t0\t2\t0\t0\t0\n"
    -- no number: a leading zero, a letter in a decimal one, `0x` alone, a letter past F, a sign, nothing
    ∷ case "00\t0\t0\t0\t0\t0\t7\n" "no\t0\t10\t0\t0\t0\n"
    ∷ case "A\t0\t0\t0\t0\t0\t7\n" "no\t0\t10\t0\t0\t0\n"
    ∷ case "0x\t0\t0\t0\t0\t0\t7\n" "no\t0\t10\t0\t0\t0\n"
    ∷ case "0xG\t0\t0\t0\t0\t0\t7\n" "no\t0\t10\t0\t0\t0\n"
    ∷ case "+1\t0\t0\t0\t0\t0\t7\n" "no\t0\t10\t0\t0\t0\n"
    ∷ case "0\t\t0\t0\t0\t0\t7\n" "no\t0\t10\t0\t0\t0\n"
    -- a field too few, one too many
    ∷ case "0\t0\t0\t0\t0\t7\n" "no\t0\t10\t0\t0\t0\n"
    ∷ case "0\t0\t0\t0\t0\t0\t7\t7\n" "no\t0\t10\t0\t0\t0\n"
    -- nothing, no newline, a second line
    ∷ case "" "no\t0\t10\t0\t0\t0\n"
    ∷ case "0\t0\t0\t0\t0\t0\t7" "no\t0\t10\t0\t0\t0\n"
    ∷ case "0\t0\t0\t0\t0\t0\t7\n\n" "no\t0\t10\t0\t0\t0\n"
    ∷ []

pub examples : map (λ c. sizes_output c.text) cases ≡ map (λ c. c.written) cases
unfolding all_of require memory_of register_of upper_ones topped good_mask size_of asked asked_at asked_from registers same grow split when ◌and_then◌ ◌or_else◌ plain digits_up_to digits field_of fields_of behind line_with line_from line_of no_line digit_value said_in decimal hexadecimal word fields line_by want_lines sizes_output
examples = refl
