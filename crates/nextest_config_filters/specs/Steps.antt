-- Steps that lead from state to state, as far as they go.
use Rattle.std.specs.Prelude.{◌≡◌, Option, Some, None}

-- steps lead from a state to a state
pub data Leads {S : Type 0} (next : S → Option S) : S → S → Type 0 where
  stays : (state : S) → Leads next state state
  steps : (from over to : S) → next from ≡ Some over → Leads next over to → Leads next from to

-- in a state that this one leads to, and from which no step leads, this is found
pub record IsWalked {S X : Type 0} (next : S → Option S) (found_at : S → X) (from : S) (found : X)
    : Type 0 where
  pub state : S
  pub leads : Leads next from state
  pub over : next state ≡ None
  pub finds : found_at state ≡ found
