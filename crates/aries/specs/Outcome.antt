-- What carrying something out comes to: a result, or a refusal with its line. Refusals go by their numbers.
-- A `do` block goes on past each test that passes, so the refusals stand in it in their checking order.
use Rattle.std.specs.Prelude.{Bool, true, false, List, ◌++◌, ℕ, Option, None, Some, Result, Ok, Err}
use Rattle.std.specs.Fmt.{decimal}
use Rattle.aries.specs.Text.{bytes}
use Rattle.aries.specs.declared.refusal.Refusal.{Refusal}
use Rattle.aries.specs.declared.refusal.Refusal.TheVariants.{TextLength, StrayByte, BlocksSpent, WordForm, NotListed, WrongNumber, OutOfPlace, NoMachine, NotClosed, NotStored, TooDeep, StoreFull, NoLayout, NoTool, TooFar, OutOfRange, ListFull, ShearUnfit}
use Rattle.aries.specs.declared.refusal.Refused.{Refused}

-- the numbers of the refusals
abbrev pub refusal_number : Refusal → ℕ
refusal_number TextLength = 1
refusal_number StrayByte = 2
refusal_number BlocksSpent = 3
refusal_number WordForm = 4
refusal_number NotListed = 5
refusal_number WrongNumber = 6
refusal_number OutOfPlace = 7
refusal_number NoMachine = 8
refusal_number NotClosed = 9
refusal_number NotStored = 10
refusal_number TooDeep = 11
refusal_number StoreFull = 12
refusal_number NoLayout = 13
refusal_number NoTool = 14
refusal_number TooFar = 15
refusal_number OutOfRange = 16
refusal_number ListFull = 17
refusal_number ShearUnfit = 18

-- a refusal with its line, as the program hitlist names it
unfoldable pub refused_text : Refused → List ℕ
unfolding bytes
refused_text e = bytes "REFUSED " ++ (decimal (refusal_number e.refusal) ++ (bytes " LINE " ++ decimal e.line))

abbrev pub Out : Type 0 → Type 0
Out A = Result A Refused

abbrev pub refused : {A : Type 0} → Refusal → ℕ → Out A
refused refusal line = Err (record { refusal = refusal; line = line })

abbrev pub ◌>>=◌ : {A B E : Type 0} → Result A E → (A → Result B E) → Result B E
◌>>=◌ (Ok a) f = f a
◌>>=◌ (Err e) f = Err e

-- goes on where the test passes
abbrev pub need : Bool → Refusal → ℕ → Out (Unit {0})
need true refusal line = Ok tt
need false refusal line = refused refusal line

-- goes on with what is there
abbrev pub given : {A : Type 0} → Option A → Refusal → ℕ → Out A
given None refusal line = refused refusal line
given (Some a) refusal line = Ok a

-- what is judged of a line by itself, a result or a refusal, in a line with a number
abbrev pub in_line : {A : Type 0} → ℕ → Result A Refusal → Out A
in_line line (Ok a) = Ok a
in_line line (Err refusal) = refused refusal line
