-- What the door answers, call by call. Assumes nothing.
use mathlib.Core.Path.{◌≡◌, refl, sym}
use mathlib.Core.Bool.{Bool, true, false, true≢false}
use lib.Dec.{T}
use Rattle.std.specs.Prelude.{is_ok}
use Rattle.definition.specs.Base.{require}
use Rattle.definition.proofs.BaseLaws.{true_T}
use Rattle.definition.specs.Tables.{kinds}
use Rattle.definition.specs.Calls.{State, given, saying, serve}
use Rattle.insert.specs.Answers.{heard}
use Rattle.request.specs.Calls.{call_of}
use Rattle.request.specs.declared.Request.{Request}
use Rattle.request.specs.declared.call.Call.{Call}
use Rattle.request.specs.declared.call.Call.TheVariants as C
use Rattle.door.specs.Applied.{apply_of}
use Rattle.door.specs.Served.{stop_of, serve_of}

-- nothing stops a call on sound tables alone
pub goes_on : (c : Call) (s : State) (y : Bool) → y ≡ given kinds s → is_ok (stop_of y c) ≡ true → T (given kinds s)
goes_on c s true e t = true_T (given kinds s) (sym e)
goes_on c s false e t = absurd (true≢false (sym t))

module _ (c : Call) (s t : State) (y : Bool) (g : y ≡ given kinds s) (n : (r : Request) → c ≡ C.Want r → ⊥) where
  pub served_adds : is_ok (stop_of y c) ≡ true → t ≡ apply_of (call_of c) s → t ≡ serve_of (call_of c) s
  served_adds = go c y n
    where
      go : (c : Call) (y : Bool) → ((r : Request) → c ≡ C.Want r → ⊥) → is_ok (stop_of y c) ≡ true → t ≡ apply_of (call_of c) s → t ≡ serve_of (call_of c) s
      go c false n k e = absurd (true≢false (sym k))
      go (C.Pool u p) true n k e = e
      go (C.Hold o h) true n k e = e
      go C.Start true n k e = e
      go (C.Want r) true n k e = absurd (n r refl)
      go C.Bad true n k e = absurd (true≢false (sym k))

  pub served_stop : is_ok (stop_of y c) ≡ false → t ≡ saying (heard (stop_of y c)) s → t ≡ serve_of (call_of c) s
  unfolding serve require
  served_stop = go c y g n
    where
      go : (c : Call) (y : Bool) → y ≡ given kinds s → ((r : Request) → c ≡ C.Want r → ⊥) → is_ok (stop_of y c) ≡ false → t ≡ saying (heard (stop_of y c)) s → t ≡ serve_of (call_of c) s
      go (C.Pool u p) true g n k e = absurd (true≢false k)
      go (C.Pool u p) false g n k e = rw (sym g) e
      go (C.Hold o h) true g n k e = absurd (true≢false k)
      go (C.Hold o h) false g n k e = rw (sym g) e
      go C.Start true g n k e = absurd (true≢false k)
      go C.Start false g n k e = rw (sym g) e
      go (C.Want r) y g n k e = absurd (n r refl)
      go C.Bad true g n k e = rw (sym g) e
      go C.Bad false g n k e = rw (sym g) e
