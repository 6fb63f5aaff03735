-- The way through all that is judged.
use Rattle.std.specs.Prelude.{◌≡◌, List, ◌++◌, map}
use Rattle.toml_spans.specs.Step.{PathStep}
use Rattle.nextest_config_lint.specs.Settings.{mark_step, SettingView}
use Rattle.nextest_config_lint.specs.declared.traversal.Traversal.{Traversal}

-- whoever was shown some before was shown these behind them, too
abbrev pub Visits : {V : Type 0} → (V → List SettingView → V → Type 0) → List SettingView → V → V
    → Type 0
Visits {V = V} has_visited settings old new = (start : V) (before : List SettingView)
    → has_visited start before old → has_visited start (before ++ settings) new

-- the way is where it was
abbrev pub IsBack : {V : Type 0} → Traversal V → Traversal V → Type 0
IsBack old new = new.path.items ≡ old.path.items

-- the way has shown what is judged at the path where it was
abbrev pub Shows : {V : Type 0} → (V → List SettingView → V → Type 0)
    → (List PathStep → List SettingView) → Traversal V → Traversal V → Type 0
Shows has_visited settings old new =
    Visits has_visited (settings (map mark_step old.path.items)) old.visitor new.visitor
