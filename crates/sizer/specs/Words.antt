-- The numbers that are handed to the program: one line of seven fields, six words and the requester, each decimal or hexadecimal. Assumes nothing.
use Rattle.std.specs.Prelude.{◌&&◌, List, [], ◌∷◌, ℕ, zero, suc, ◌+◌, ◌*◌, ◌-◌, eqb, leb, ltb, length, take, drop, get_or}
use Rattle.std.proofs.Math.Option.{Option, none, some}
use Rattle.definition.specs.Registers.{register_count}
use Rattle.lines.specs.Base.{bytes, tab, newline, same, split, pick, when, ◌and_then◌, ◌or_else◌}
use Rattle.lines.specs.Numbers.{digit, plain}

-- the longest input, in bytes, its newline with it
abbrev pub size_text_limit : ℕ
size_text_limit = 4096

-- ---- a field

-- what a digit says: '0' to '9', and of hexadecimal ones 'a' to 'f' and 'A' to 'F' too; 16 is no digit of either
unfoldable pub digit_value : ℕ → ℕ
digit_value b =
    pick (digit b) (b - 48)
    (pick (leb 97 b && leb b 102) (b - 87)
    (pick (leb 65 b && leb b 70) (b - 55)
    16))

-- what the digits of a base say, after those that said v
unfoldable pub said_in : ℕ → ℕ → List ℕ → Option ℕ
said_in base v [] = some v
said_in base v (b ∷ bs) = when (ltb (digit_value b) base) (said_in base (v * base + digit_value b) bs)

-- without sign or leading zeros, as 01 writes numbers
unfoldable pub decimal : List ℕ → Option ℕ
decimal f = when (plain f) (said_in 10 0 f)

-- `0x` and at least one digit; zeros may lead
unfoldable pub hexadecimal : List ℕ → Option ℕ
hexadecimal f = when (same (take 2 f) (bytes "0x") && ltb 2 (length f)) (said_in 16 0 (drop 2 f))

-- THE NUMBER THAT A FIELD SAYS, however large
unfoldable pub word : List ℕ → Option ℕ
word f = decimal f or_else hexadecimal f

-- ---- the line

-- exactly so many fields, each of them read: by `word`, or as the code does it
unfoldable pub fields : (List ℕ → Option ℕ) → ℕ → List (List ℕ) → Option (List ℕ)
fields read zero [] = some []
fields read zero (f ∷ fs) = none
fields read (suc n) [] = none
fields read (suc n) (f ∷ fs) = read f and_then λ v. fields read n fs and_then λ vs. some (v ∷ vs)

-- the words and the requester behind them
abbrev pub field_count : ℕ
field_count = suc register_count

-- the input is one line: its last byte is a newline, and what stands before it is fields parted by single tabs. No word has a newline
unfoldable pub line_by : (List ℕ → Option ℕ) → List ℕ → Option (List ℕ)
line_by read text =
    when (leb (length text) size_text_limit && eqb (get_or text (length text - 1) 0) newline) (fields read field_count (split tab (take (length text - 1) text)))

abbrev pub words_of : List ℕ → Option (List ℕ)
words_of text = line_by word text
