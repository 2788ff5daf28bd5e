-- When reading stops, and what a program prints whose answer to a text is f: by the input, the bytes of it that were read, and what the last read answered. Assumes nothing.
use Rattle.std.specs.Prelude.{◌≡◌, List, [], ℕ, zero, suc, ◌≤◌, ℤ, pos, negsuc, length, take}

-- n bytes of a buffer of so many are read, and no more are: a read failed, or was answered 0, or the buffer is full
abbrev pub Stopped : ℕ → ℕ → ℤ → Type 0
Stopped long n (negsuc k) = n ≤ long
Stopped long n (pos zero) = n ≤ long
Stopped long n (pos (suc k)) = n ≡ long

-- what POSIX says of the bytes read, of some input: they are its first ones, and 0 is answered at its end alone
pub record ReadOf (input bytes : List ℕ) (last : ℤ) : Type 0 where
  pub front : bytes ≡ take (length bytes) input
  pub end : last ≡ pos 0 → length input ≤ length bytes

-- the answer to the WHOLE input; where reading failed, nothing
abbrev pub printed : (List ℕ → List ℕ) → ℤ → List ℕ → List ℕ
printed f (pos k) input = f input
printed f (negsuc k) input = []

-- THE PROMISE of a program: whatever the input, if these are the bytes read of it, the first r bytes of the buffer are what is printed
pub record Prints (f : List ℕ → List ℕ) (bytes : List ℕ) (last : ℤ) (r : ℕ) (out : List ℕ) : Type 0 where
  pub inside : r ≤ length out
  pub prints : (input : List ℕ) → ReadOf input bytes last → take r out ≡ printed f last input
