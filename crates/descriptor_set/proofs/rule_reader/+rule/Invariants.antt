use Rattle.std.proofs.Common.{◌≡◌, ◌++◌, ◌+◌, ◌*◌, drop, map, Bor}
use Rattle.descriptor_set.specs.DescriptorFields.{rule_info}
use Rattle.schema.specs.declared.value.Value.{Value}
use Rattle.descriptor_set.proofs.rule_reader.+rule.Given as goal

abbrev pub decreases-read_rule : goal.decreases-read_rule
decreases-read_rule l = 3 * l.levels

abbrev pub decreases-read_parts : goal.decreases-read_parts
decreases-read_parts l = 3 * l.levels + 2

abbrev pub decreases-read_rules : goal.decreases-read_rules
decreases-read_rules l = 3 * l.levels + 1

abbrev pub invariant-read_rules-loop-rule : goal.invariant-read_rules-loop-rule
invariant-read_rules-loop-rule l = l.read ++ map (rule_info l.levels) (map (λ (v : Bor Value). v.now) (drop l.rule-index l.rules)) ≡ map (rule_info l.levels) (map (λ (v : Bor Value). v.now) l.rules)
