-- What stands for a replaced child denies every request, without obligations. Assumes nothing.
use mathlib.Core.Path.{◌≡◌, refl, sym, ◌∙◌}
use mathlib.Core.List.{[], ◌++◌}
use Rattle.record.specs.Bytes.{span_of}
use Rattle.record.specs.Forest.{span_in, grow_f, forest}
use Rattle.meaning.specs.Logic.{target_all}
use Rattle.meaning.specs.Policy.{no_tree, tree}
use Rattle.meaning.specs.Meaning.{Bags, sections_of, target_of, when_of, rule_of, combine, handed, own_of, verdict_of, node_of, rule_child, rule_children, child_of, decides, obliges}
use Rattle.meaning.specs.Reading.{target_in, when_in, rule_at, rules_in, obligations_in, tree_at, trees_in}
use Rattle.meaning.specs.declared.Verdict.TheVariants.{Deny}
use Rattle.structure.proofs.ReadAlike.{same_is_read_alike}
use Rattle.mending.specs.Mending.{deny_policy, deny_rule}
use Rattle.mending.specs.Claims.{deny_tree, ReplacedDenies}

-- its two records are read as that tree ..
read : trees_in (deny_policy ++ deny_rule) (forest (deny_policy ++ deny_rule) 0 2) ≡ tree deny_tree no_tree
unfolding span_of span_in grow_f forest target_in when_in rule_at rules_in obligations_in tree_at trees_in
read = refl

-- .. which denies
denies : (g : Bags) → (decides g deny_tree ≡ Deny) × (obliges g deny_tree ≡ [])
unfolding target_all sections_of target_of when_of rule_of combine handed own_of verdict_of node_of rule_child rule_children child_of decides obliges
denies g = (refl, refl)

pub replaced_denies : ReplacedDenies
replaced_denies b i h = (sym (same_is_read_alike (deny_policy ++ deny_rule) 0 b i 2 h).policies ∙ read, denies)
