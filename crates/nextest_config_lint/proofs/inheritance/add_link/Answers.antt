use Rattle.std.proofs.Common.{cond, ap, rules, ◌∙◌, Option}
use Rattle.std.specs.Str.{bytes_eq}
use Rattle.nextest_config_lint.specs.Inheritance.{link_in, LinkView}
use Rattle.nextest_config_lint.proofs.Links.{link_updates}
use Rattle.nextest_config_lint.proofs.inheritance.add_link.Goals as goal

pub returns-in_ok-insert-in-Some-as_str : goal.returns-in_ok-insert-in-Some-as_str
returns-in_ok-insert-in-Some-as_str c = λ other.
    link_updates c.args.name.now c.args.links.now c.insert.new.self _ c.in_ok-insert-in-Some-as_str.ensures.updates other
    ∙ ap (λ (link : Option LinkView). cond (bytes_eq c.args.name.now other) link (link_in c.args.links.now other)) (search rules)

pub returns-in-None : goal.returns-in-None
returns-in-None c = λ other.
    link_updates c.args.name.now c.args.links.now c.remove.new.self _ c.remove.ensures.updates other
    ∙ ap (λ (link : Option LinkView). cond (bytes_eq c.args.name.now other) link (link_in c.args.links.now other)) (search rules)
