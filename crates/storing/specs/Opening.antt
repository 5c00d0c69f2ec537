-- What a U line leaves, against the definitions.
use Rattle.std.specs.Prelude.{ℕ}
use Rattle.aries.specs.declared.job.Job.{Job}
use Rattle.aries.specs.Outcome.{Out}
use Rattle.aries.specs.Entries.{Made}
use Rattle.aries.specs.Judging.{Judging, limits}
use Rattle.aries.specs.Bodies.{Store}
use Rattle.aries.specs.Runs.{Lent, Ran}

abbrev pub entries_of_store : Store → ℕ
entries_of_store st = st.progress.entries

-- A U line carried out from a store on, by what it is under the limits of its job.
abbrev pub Opens : Out Store → Job → Lent → Lent → Store → (Judging → Store → Out (Made Store)) → Type 0
Opens r job before after st what = Ran entries_of_store job r before after st.progress.entries (what (limits job) st)
