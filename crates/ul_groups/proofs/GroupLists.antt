-- Entries that were added before those that are left, and lists of groups that were made before those of others.
use Rattle.std.proofs.Common.{◌≡◌, ◌+◌, ◌-◌, ◌<◌, ◌≤◌, ◌++◌, ◌∙◌, ℕ, zero, suc, List, [], ◌∷◌, length, drop, get_or, refl, ap, sym, subst, append_assoc, append-nil, add-one, arith, drop-cons}
use Rattle.std.proofs.Math.ListN.{drop_of_length-le}
use Rattle.std.specs.Prelude.{Result, Ok, Err}
use Rattle.ul_requirement.specs.Fields.{RequirementFields}
use Rattle.ul_project.specs.Groups.{GroupFields}
use Rattle.ul_project.specs.Results.{◌>>=◌}
use Rattle.ul_project.specs.declared.fault.ProjectFault.{ProjectFault}
use Rattle.ul_project.specs.declared.fault.ProjectFault.TheVariants.{NotToml, Shape, Requirement, Unsupported, EmptyRegion, NoMemory}
use Rattle.ul_project.specs.declared.group.GroupEntry.{GroupEntry}
use Rattle.ul_groups.specs.Answers.{Gives}
use Rattle.ul_groups.specs.Expanded.{Expand, Expanding, ExtraLists, GroupByName, ListFields, Stop, extra_list, group_lists, refused, with_entries, with_entry, with_group}

-- what stops a part stops the whole
pub stops : {X Y X' Y' : Type 0} (view : X → Y) (view' : X' → Y') (fault : ProjectFault) (part : Expanding Y) (whole : Expanding Y')
    → ((stop : Stop) → part ≡ Err stop → whole ≡ Err stop) → Gives view (Err fault) part → Gives view' (Err fault) whole
stops view view' NotToml part whole f h = absurd h
stops view view' (Shape path) part whole f h = f (refused path) h
stops view view' (Requirement path) part whole f h = absurd h
stops view view' (Unsupported path) part whole f h = absurd h
stops view view' EmptyRegion part whole f h = absurd h
stops view view' NoMemory part whole f h = tt

-- an entry, and then the others
pub entries_ahead : (groups : GroupByName) (expand : Expand) (group : List ℕ) (i : ℕ) (e : GroupEntry) (es : List GroupEntry) (list : ListFields) (answer : Expanding ListFields)
    → with_entry groups expand group i e list ≡ answer → with_entries groups expand group i (e ∷ es) list ≡ (answer >>= λ after. with_entries groups expand group (i + 1) es after)
unfolding with_entries
entries_ahead groups expand group i e es list answer h = ap (λ (a : Expanding ListFields). a >>= λ after. with_entries groups expand group (i + 1) es after) h

-- the next of those that are left
pub left : {X : Type 0} (xs : List X) (n : ℕ) (x : X) → n < length xs → x ≡ get_or xs n x → drop n xs ≡ x ∷ drop (n + 1) xs
left {X} xs n x lt is = drop-cons xs n x lt ∙ ap (λ (y : X). y ∷ drop (suc n) xs) (sym is) ∙ ap (λ (k : ℕ). x ∷ drop k xs) (sym (add-one n))

-- a group's entries are added through one level less
pub group_entries : (depth : ℕ) (groups : GroupByName) (g : GroupFields) (list : ListFields) → (depth ≡ 0 → ⊥)
    → with_group depth groups g list ≡ with_entries groups (with_group (depth - 1) groups) g.name 0 g.entries list
unfolding with_group
group_entries zero groups g list some = absurd (some refl)
group_entries (suc depth) groups g list some =
    let less : depth ≡ suc depth - 1 = omega arith in
    ap (λ (d : ℕ). with_entries groups (with_group d groups) g.name 0 g.entries list) less

-- no entry is left
pub entries_end : (groups : GroupByName) (expand : Expand) (group : List ℕ) (i : ℕ) (list : ListFields) → with_entries groups expand group i [] list ≡ Ok list
unfolding with_entries
entries_end groups expand group i list = refl

-- lists that were made, and then those of the rest
abbrev pub behind : ExtraLists → Expanding ExtraLists → Expanding ExtraLists
behind found rest = rest >>= λ lists. Ok (found ++ lists)

then_one : (found : ExtraLists) (list : List ℕ × List RequirementFields) (rest : Expanding ExtraLists)
    → behind found (rest >>= λ lists. Ok (list ∷ lists)) ≡ behind (found ++ list ∷ []) rest
then_one found list (Ok lists) = ap Ok (sym (append_assoc found (list ∷ []) lists))
then_one found list (Err stop) = refl

next_made : (groups : GroupByName) (found after : ExtraLists) (g : GroupFields) (gs : List GroupFields) (list : List ℕ × List RequirementFields)
    → extra_list groups g ≡ Ok list → after ≡ found ++ list ∷ [] → behind found (group_lists groups (g ∷ gs)) ≡ behind after (group_lists groups gs)
unfolding group_lists
next_made groups found after g gs list e s = rw (e, s) (then_one found list (group_lists groups gs))

-- the list of the next group was made
pub lists_next : (groups : GroupByName) (found after : ExtraLists) (gs : List GroupFields) (i : ℕ) (g : GroupFields) (list : List ℕ × List RequirementFields)
    → i < length gs → g ≡ get_or gs i g → extra_list groups g ≡ Ok list → after ≡ found ++ list ∷ []
    → behind found (group_lists groups (drop i gs)) ≡ behind after (group_lists groups (drop (i + 1) gs))
lists_next groups found after gs i g list lt is e s =
    ap (λ (rest : List GroupFields). behind found (group_lists groups rest)) (left gs i g lt is)
    ∙ next_made groups found after g (drop (i + 1) gs) list e s

next_refused : (groups : GroupByName) (found : ExtraLists) (g : GroupFields) (gs : List GroupFields) (stop : Stop) → extra_list groups g ≡ Err stop
    → behind found (group_lists groups (g ∷ gs)) ≡ Err stop
unfolding group_lists
next_refused groups found g gs stop e = rw e refl

-- the next group is refused
pub lists_stop : (groups : GroupByName) (found : ExtraLists) (gs : List GroupFields) (i : ℕ) (g : GroupFields) (stop : Stop)
    → i < length gs → g ≡ get_or gs i g → extra_list groups g ≡ Err stop → behind found (group_lists groups (drop i gs)) ≡ Err stop
lists_stop groups found gs i g stop lt is e =
    ap (λ (rest : List GroupFields). behind found (group_lists groups rest)) (left gs i g lt is)
    ∙ next_refused groups found g (drop (i + 1) gs) stop e

none_more : (groups : GroupByName) (found : ExtraLists) → behind found (group_lists groups []) ≡ Ok found
unfolding group_lists
none_more groups found = ap Ok (append-nil found)

-- no group is left
pub lists_end : (groups : GroupByName) (found : ExtraLists) (gs : List GroupFields) (i : ℕ) → length gs ≤ i
    → behind found (group_lists groups (drop i gs)) ≡ Ok found
lists_end groups found gs i le =
    ap (λ (rest : List GroupFields). behind found (group_lists groups rest)) (drop_of_length-le gs le) ∙ none_more groups found

start_behind : (rest : Expanding ExtraLists) → rest ≡ behind [] rest
start_behind (Ok lists) = refl
start_behind (Err stop) = refl

-- no list was made yet
pub lists_start : (groups : GroupByName) (found : ExtraLists) (gs : List GroupFields) → found ≡ []
    → group_lists groups gs ≡ behind found (group_lists groups gs)
lists_start groups found gs e = start_behind (group_lists groups gs) ∙ ap (λ (f : ExtraLists). behind f (group_lists groups gs)) (sym e)

-- equal groups have equal lists
pub same_lists : {X : Type 0} (view : X → ExtraLists) (answer : Result X ProjectFault) (one other : GroupByName) (gs : List GroupFields) → one ≡ other
    → Gives view answer (group_lists one gs) → Gives view answer (group_lists other gs)
same_lists view answer one other gs e h = subst (λ (groups : GroupByName). Gives view answer (group_lists groups gs)) e h
