-- The state that a draft stands for.
use Rattle.book.specs.View.{ledger_of}
use Rattle.text.specs.Entries.{names_of}
use Rattle.text.specs.Meaning.{State, state}
use Rattle.text.specs.declared.drafts.Draft.{Draft}

abbrev pub state_of : Draft → State
state_of d = state d.scale (names_of d.names) (ledger_of d.book)
