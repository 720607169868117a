-- The answers of the code, as replies.
use Rattle.std.specs.Prelude.{ℕ, Result, Ok, Err}
use Rattle.base.specs.Refusals as why
use Rattle.base.specs.Replies.{Reply, accepted, refused}
use Rattle.base.specs.declared.Kind.{Kind}
use Rattle.base.specs.declared.Kind.TheVariants as kind
use Rattle.base.specs.declared.Refusal.{Refusal}

-- the number of each kind of refusal
abbrev pub number_of : Kind → ℕ
number_of kind.BadHeader = why.bad_header
number_of kind.BadForm = why.bad_form
number_of kind.BadSize = why.bad_size
number_of kind.BadEntry = why.bad_entry
number_of kind.NotMatrix = why.not_matrix
number_of kind.BadDisplacement = why.bad_displacement
number_of kind.BadParameter = why.bad_parameter
number_of kind.Unsound = why.unsound
number_of kind.TooShort = why.too_short
number_of kind.NoWorker = why.no_worker
number_of kind.NotState = why.not_state
number_of kind.AllDone = why.all_done
number_of kind.MustWait = why.must_wait
number_of kind.Overflow = why.overflow
number_of kind.TooEarly = why.too_early
number_of kind.BadLayout = why.bad_layout
number_of kind.BadSurvey = why.bad_survey
number_of kind.NoCrew = why.no_crew
number_of kind.Elsewhere = why.elsewhere
number_of kind.NotForces = why.not_forces
number_of kind.NoEntry = why.no_entry
number_of kind.BadChange = why.bad_change
number_of kind.BadPlaces = why.bad_places
number_of kind.PastLimits = why.past_limits
number_of kind.NoRegister = why.no_register
number_of kind.NotPrepared = why.not_prepared

-- document 01's number and values for each case of an answer
abbrev pub reply_of : Result ℕ Refusal → Reply
reply_of (Ok k) = accepted k
reply_of (Err r) = refused (number_of r.kind) r.place

-- .. and of a check, which has no count to tell
abbrev pub reply_of_check : Result (Unit {0}) Refusal → Reply
reply_of_check (Ok _) = accepted 0
reply_of_check (Err r) = refused (number_of r.kind) r.place
