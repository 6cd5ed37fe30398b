-- What was gathered of rows.
use Rattle.std.specs.Prelude.{◌≡◌, ℕ, List, map}
use Rattle.ul_base.specs.declared.node.Node.{Node}
use Rattle.ul_index.specs.Serves.{Selection}
use Rattle.ul_merge.specs.Gathered.{AreGroups}
use Rattle.ul_merge.specs.Keys.{pair_cmp, pick_cmp}
use Rattle.ul_merge.specs.Rows.{all_members, all_uses, member_row, use_row}
use Rattle.ul_merge.specs.declared.gathering.Entry.{Entry}
use Rattle.ul_merge.specs.declared.gathering.Group.{Group}
use Rattle.ul_merge.specs.declared.keys.PairKey.{PairKey}
use Rattle.ul_merge.specs.declared.keys.PickKey.{PickKey}
use Rattle.ul_merge.specs.declared.members.Member.{Member}
use Rattle.ul_merge.specs.declared.targets.Use.{Use}

-- what the leaves chose, by packages
abbrev pub AreMembers : List Selection → List (Group PairKey Member) → Type 0
AreMembers ss gs = (es : List (Entry PairKey Member)) × (map member_row es ≡ all_members 0 ss) × AreGroups pair_cmp es gs

-- where leaves chose targets of requirements, by the targets at their versions
abbrev pub AreUses : List Selection → List ℕ → List (Node × ℕ) → List (Group PickKey Use) → Type 0
AreUses ss users aims gs = (es : List (Entry PickKey Use)) × (map use_row es ≡ all_uses ss users aims) × AreGroups pick_cmp es gs
