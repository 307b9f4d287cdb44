-- Lowest urgency first.
use Rattle.agenda.specs.Urgent.{Urgencies, listed}
use Rattle.agenda.specs.declared.lowest.LowestUrgency.{LowestUrgency}

-- the urgency with which each number waits
unfoldable pub urgencies_of : LowestUrgency → Urgencies
urgencies_of l = listed l.urgencies
