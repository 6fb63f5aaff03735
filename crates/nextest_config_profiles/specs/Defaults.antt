-- What nextest sets itself, below all files (nextest's configuration reference). Keys stand in the
-- order of their bytes.
use Rattle.std.specs.Prelude.{codes, false, pos, true}
use Rattle.toml.specs.Data.{array, boolean, integer, member, Members, no_items, no_members, string, table}

-- the table at `slow-timeout` of the profile `default`
abbrev pub slow_timeout : Members
slow_timeout =
    member (codes "on-timeout") (string (codes "fail"))
    (member (codes "period") (string (codes "60s")) no_members)

-- the table at `leak-timeout` of the profile `default`
abbrev pub leak_timeout : Members
leak_timeout =
    member (codes "period") (string (codes "200ms"))
    (member (codes "result") (string (codes "pass")) no_members)

-- the table at `junit` of the profile `default`, without a path
abbrev pub junit : Members
junit =
    member (codes "flaky-fail-status") (string (codes "failure"))
    (member (codes "report-name") (string (codes "nextest-run"))
    (member (codes "report-skipped") (string (codes "none"))
    (member (codes "store-failure-output") (boolean true)
    (member (codes "store-success-output") (boolean false) no_members))))

-- the table at `bench` of the profile `default`
abbrev pub bench : Members
bench =
    member (codes "global-timeout") (string (codes "30y"))
    (member (codes "slow-timeout")
    (table (member (codes "period") (string (codes "30y")) no_members))
    no_members)

-- the table of the profile `default`
abbrev pub default_settings : Members
default_settings =
    member (codes "bench") (table bench)
    (member (codes "default-filter") (string (codes "all()"))
    (member (codes "fail-fast") (boolean true)
    (member (codes "failure-output") (string (codes "immediate"))
    (member (codes "final-status-level") (string (codes "flaky"))
    (member (codes "flaky-result") (string (codes "pass"))
    (member (codes "global-timeout") (string (codes "30y"))
    (member (codes "junit") (table junit)
    (member (codes "leak-timeout") (table leak_timeout)
    (member (codes "retries") (integer (pos 0))
    (member (codes "run-extra-args") (array no_items)
    (member (codes "slow-timeout") (table slow_timeout)
    (member (codes "status-level") (string (codes "pass"))
    (member (codes "success-output") (string (codes "never"))
    (member (codes "test-threads") (string (codes "num-cpus"))
    (member (codes "threads-required") (integer (pos 1)) no_members)))))))))))))))

-- what nextest sets itself, as a document
abbrev pub default_values : Members
default_values =
    member (codes "profile") (table (member (codes "default") (table default_settings) no_members))
    no_members
