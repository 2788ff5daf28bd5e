-- All rows of a call go in, or none: of one that is accepted every row stays, of one that is refused no row does. Assumes nothing.
use mathlib.Core.Path.{◌≡◌, refl}
use mathlib.Core.Bool.{true}
use Rattle.std.specs.Prelude.{Option, Some, None, Ok, Err}
use Rattle.insert.specs.Answers.{Reply}
use Rattle.insert.specs.declared.Refused.{Refused}
use Rattle.request.specs.declared.call.Use.{Use}
use Rattle.tables.specs.declared.Kind.{Kind}
use Rattle.tables.specs.declared.PoolRow.{PoolRow}
use Rattle.tables.specs.declared.RangeRow.{RangeRow}
use Rattle.tables.specs.declared.InputRow.{InputRow}
use Rattle.adding.specs.Adds.{pick, ranges_in, rows_in, inputs_in}
use Rattle.adding.specs.Judged.{judged, accepts, for_use, pool_put_of, held_put_of, input_put_of}
use Rattle.adding.specs.declared.Adds.{Adds}
use Rattle.adding.specs.declared.Verdict.{Verdict}

module _ (q : Adds) (y : Refused) where
  pub stays_refused : (k : Kind) → held_put_of (judged q (Err y)) k ≡ None
  stays_refused k = refl

  pub input_refused : input_put_of (judged q (Err y)) ≡ None
  input_refused = refl

  pub range_refused : (u : Use) (k : Kind) → pool_put_of (judged q (Err y)) u k ≡ None
  range_refused u k = refl

module _ (q : Adds) where
  pub stays_accepted : (k : Kind) → held_put_of (judged q (Ok tt)) k ≡ rows_in q k
  stays_accepted k = refl

  pub input_accepted : input_put_of (judged q (Ok tt)) ≡ inputs_in q
  input_accepted = refl

  pub range_accepted : (u : Use) (k : Kind) → pool_put_of (judged q (Ok tt)) u k ≡ for_use u (ranges_in q k)
  range_accepted u k = refl

-- a row that stays is one that the call has, and the call is accepted
says : {A : Type 0} (r : Reply) (o : Option A) (x : A) → pick (accepts r) o None ≡ Some x → (o ≡ Some x) × (accepts r ≡ true)
says (Ok given) o x e = (e, refl)
says (Err y) o x e = cc

module _ (v : Verdict) where
  pub stays_says : (k : Kind) (r : RangeRow) → held_put_of v k ≡ Some r → (rows_in v.adds k ≡ Some r) × (accepts v.reply ≡ true)
  stays_says k r = says v.reply (rows_in v.adds k) r

  pub input_says : (r : InputRow) → input_put_of v ≡ Some r → (inputs_in v.adds ≡ Some r) × (accepts v.reply ≡ true)
  input_says r = says v.reply (inputs_in v.adds) r

  pub range_says : (u : Use) (k : Kind) (r : PoolRow) → pool_put_of v u k ≡ Some r → (for_use u (ranges_in v.adds k) ≡ Some r) × (accepts v.reply ≡ true)
  range_says u k r = says v.reply (for_use u (ranges_in v.adds k)) r
