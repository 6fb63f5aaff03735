-- The settings of profiles by their keys (nextest's configuration reference).
use Rattle.std.specs.Prelude.{codes, List, [], ◌∷◌, ℕ}
use Rattle.nextest_config_profiles.specs.Reach.{words_of}
use Rattle.nextest_config_profiles.specs.declared.setting_key.SettingKey.{SettingKey}

-- the keys that lead to a setting from its profile
abbrev pub keys_of : {T : Type 0} → SettingKey T → List (List ℕ)
keys_of key = words_of key.0.now

-- the keys of all settings
abbrev pub setting_keys : List (List (List ℕ))
setting_keys =
    (codes "retries" ∷ [])
    ∷ (codes "flaky-result" ∷ [])
    ∷ (codes "threads-required" ∷ [])
    ∷ (codes "fail-fast" ∷ [])
    ∷ (codes "slow-timeout" ∷ [])
    ∷ (codes "leak-timeout" ∷ [])
    ∷ (codes "global-timeout" ∷ [])
    ∷ (codes "junit" ∷ codes "path" ∷ [])
    ∷ (codes "junit" ∷ codes "report-name" ∷ [])
    ∷ (codes "junit" ∷ codes "store-success-output" ∷ [])
    ∷ (codes "junit" ∷ codes "store-failure-output" ∷ [])
    ∷ (codes "junit" ∷ codes "report-skipped" ∷ [])
    ∷ (codes "junit" ∷ codes "flaky-fail-status" ∷ [])
    ∷ (codes "bench" ∷ codes "slow-timeout" ∷ [])
    ∷ (codes "bench" ∷ codes "global-timeout" ∷ [])
    ∷ []
