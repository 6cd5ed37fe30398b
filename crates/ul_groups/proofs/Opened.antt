-- Steps on the way through groups that are open, one inside the other.
use Rattle.std.proofs.Common.{◌≡◌, ◌+◌, ◌-◌, ◌<◌, ◌≤◌, ◌^◌, ◌++◌, ◌∙◌, ℕ, suc, List, [], ◌∷◌, length, take, drop, append-nil, get_or, refl, ap, sym, subst, arith, Bool, true, false, cond, Option, Some, None}
use Rattle.std.proofs.Math.ListN.{drop_of_length-le}
use Rattle.std.proofs.lemmas.List.{length-append}
use Rattle.std.specs.Prelude.{Result, Ok, Err}
use Rattle.std.specs.BTreeMap.{is_at}
use Rattle.std.specs.Borrow.{Bor}
use Rattle.ul_base.specs.Names.{name_cmp}
use Rattle.ul_project.specs.Groups.{GroupFields}
use Rattle.ul_project.specs.Lists.{has_name}
use Rattle.ul_project.specs.Results.{◌>>=◌}
use Rattle.ul_project.specs.declared.group.GroupEntry.{GroupEntry}
use Rattle.ul_project.specs.declared.path.ProjectPath.{ProjectPath}
use Rattle.ul_groups.specs.Expanded.{Expand, Expanding, GroupByName, ListFields, Stop, deepest, group_list, group_named, refused, with_entries, with_entry, with_group, with_include, with_one}
use Rattle.ul_groups.specs.Answers.{Gives}
use Rattle.ul_groups.specs.GroupMaps.{HasGroups, groups_in, list_fields}
use Rattle.ul_requirement.specs.Fields.{RequirementFields}
use Rattle.ul_groups.specs.Opened.{AreNamed, Enters, GoesOn, OpenFields, ended, entered, left_of, opened, rest_of, rest_of_one, with_inner}
use Rattle.ul_groups.proofs.GroupLists.{entries_ahead, entries_end, group_entries, left, stops}
use Rattle.ul_groups.proofs.NameLists.{same_name}
use Rattle.ul_groups.specs.declared.expansion.Open.{Open}
use Rattle.ul_project.specs.declared.fault.ProjectFault.{ProjectFault}
use Rattle.ul_project.specs.declared.fault.ProjectFault.TheVariants.{NotToml, Shape, Requirement, Unsupported, EmptyRegion, NoMemory}

same_some : (a b : GroupFields) → (let o : Option GroupFields = Some a in o) ≡ Some b → a ≡ b
same_some a b e = cc

then_then : {A B C : Type 0} (r : Expanding A) (f : A → Expanding B) (g : B → Expanding C) → ((r >>= f) >>= g) ≡ (r >>= λ x. f x >>= g)
then_then (Ok x) f g = refl
then_then (Err stop) f g = refl

then_none : (groups : GroupByName) (depth : ℕ) (r : Expanding ListFields) → r ≡ (r >>= rest_of groups depth [])
unfolding rest_of
then_none groups depth (Ok x) = refl
then_none groups depth (Err stop) = refl

-- the innermost group comes first
pub innermost_first : (groups : GroupByName) (depth : ℕ) (os : List OpenFields) (o : OpenFields) (list : ListFields)
    → rest_of groups depth (os ++ o ∷ []) list ≡ (rest_of_one groups (depth - length os) o list >>= rest_of groups depth os)
unfolding rest_of
innermost_first groups depth [] o list =
    let same : depth ≡ depth - 0 = omega arith in
    ap (λ (d : ℕ). rest_of_one groups d o list) same ∙ then_none groups depth (rest_of_one groups (depth - 0) o list)
innermost_first groups depth (p ∷ os) o list =
    let same : depth - 1 - length os ≡ depth - suc (length os) = omega arith in
    ap (λ (r : Expanding ListFields). r >>= rest_of_one groups depth p) (innermost_first groups (depth - 1) os o list)
    ∙ then_then (rest_of_one groups (depth - 1 - length os) o list) (rest_of groups (depth - 1) os) (rest_of_one groups depth p)
    ∙ ap (λ (d : ℕ). rest_of_one groups d o list >>= λ x. rest_of groups (depth - 1) os x >>= rest_of_one groups depth p) same

-- ---- an include

-- an include of a group that isn't begun opens the group
pub include_opens : (expand : Expand) (place : ProjectPath) (name : List ℕ) (o : Option GroupFields) (list : ListFields) (g : GroupFields) (begun : List (List ℕ))
    → o ≡ Some g → g.name ≡ name → has_name list.done name ≡ false → has_name list.begun name ≡ false → begun ≡ with_one list.begun name
    → with_include expand place name o list ≡ (expand g (record list { begun = begun }) >>= λ inner. Ok (ended g.name inner))
include_opens expand place name o list g begun is named undone new one =
    ap (λ (x : Option GroupFields). with_include expand place name x list) is
    ∙ ap (λ (b : Bool). cond b (Ok list) (cond (has_name list.begun name) (Err (refused place)) whole)) undone
    ∙ ap (λ (b : Bool). cond b (Err (refused place)) whole) new
    ∙ ap (λ (b : List (List ℕ)). expand g (record list { begun = b }) >>= λ inner. Ok (ended name inner)) (sym one)
    ∙ ap (λ (n : List ℕ). expand g (record list { begun = begun }) >>= λ inner. Ok (ended n inner)) (sym named)
  where
    whole : Expanding ListFields
    whole = expand g (record list { begun = with_one list.begun name }) >>= λ inner. Ok (ended name inner)

found_first : (f : GroupFields) (rest : Option GroupFields) (name : List ℕ) (g : GroupFields) → (rest ≡ Some g → g.name ≡ name)
    → (b : Bool) → is_at (name_cmp f.name) name ≡ b → cond b (Some f) rest ≡ Some g → g.name ≡ name
found_first f rest name g others true is e = ap (λ (x : GroupFields). x.name) (sym (same_some f g e)) ∙ same_name f.name name is
found_first f rest name g others false is e = others e

-- the group that is found at a name among groups has this name
pub found_named : (gs : List GroupFields) → AreNamed (group_named gs)
found_named [] name g e = absurd (cc e)
found_named (f ∷ fs) name g e = found_first f (group_named fs name) name g (found_named fs name g) (is_at (name_cmp f.name) name) refl e

-- ---- one group

-- no entry is left
one_ends : (groups : GroupByName) (depth n : ℕ) (g : GroupFields) (list : ListFields) → length g.entries ≤ n
    → rest_of_one groups depth (g, n) list ≡ Ok (ended g.name list)
one_ends groups depth n g list le =
    ap (λ (es : List GroupEntry). with_entries groups (with_group depth groups) g.name n es list >>= λ after. Ok (ended g.name after))
    (drop_of_length-le g.entries le)
    ∙ ap (λ (r : Expanding ListFields). r >>= λ after. Ok (ended g.name after)) (entries_end groups (with_group depth groups) g.name n list)

-- an entry stands before the others
entries_one : (groups : GroupByName) (expand : Expand) (g : GroupFields) (n : ℕ) (e : GroupEntry) (list : ListFields) (answer : Expanding ListFields)
    → n < length g.entries → e ≡ get_or g.entries n e → with_entry groups expand g.name n e list ≡ answer
    → with_entries groups expand g.name n (drop n g.entries) list
    ≡ (answer >>= λ after. with_entries groups expand g.name (n + 1) (drop (n + 1) g.entries) after)
entries_one groups expand g n e list answer lt is h =
    ap (λ (es : List GroupEntry). with_entries groups expand g.name n es list) (left g.entries n e lt is)
    ∙ entries_ahead groups expand g.name n e (drop (n + 1) g.entries) list answer h

-- what comes after an entry
one_goes : (groups : GroupByName) (depth n : ℕ) (g : GroupFields) (e : GroupEntry) (list : ListFields) (answer : Expanding ListFields)
    → n < length g.entries → e ≡ get_or g.entries n e → with_entry groups (with_group depth groups) g.name n e list ≡ answer
    → rest_of_one groups depth (g, n) list ≡ (answer >>= rest_of_one groups depth (g, n + 1))
one_goes groups depth n g e list answer lt is h =
    let expand : Expand = with_group depth groups in
    ap (λ (r : Expanding ListFields). r >>= λ after. Ok (ended g.name after)) (entries_one groups expand g n e list answer lt is h)
    ∙ then_then answer (λ after. with_entries groups expand g.name (n + 1) (drop (n + 1) g.entries) after) (λ after. Ok (ended g.name after))

-- a group that is included, from its first entry on
inner_one : (groups : GroupByName) (depth : ℕ) (g : GroupFields) (list : ListFields) → (depth ≡ 0 → ⊥)
    → (with_group depth groups g list >>= λ inner. Ok (ended g.name inner)) ≡ rest_of_one groups (depth - 1) (g, 0) list
inner_one groups depth g list some = ap (λ (r : Expanding ListFields). r >>= λ inner. Ok (ended g.name inner)) (group_entries depth groups g list some)

-- ---- all groups

-- the innermost group ends
pub next_ends : (groups : GroupByName) (depth : ℕ) (os : List OpenFields) (g : GroupFields) (n : ℕ) (list : ListFields) → length g.entries ≤ n
    → rest_of groups depth (os ++ (g, n) ∷ []) list ≡ rest_of groups depth os (ended g.name list)
next_ends groups depth os g n list le =
    innermost_first groups depth os (g, n) list
    ∙ ap (λ (r : Expanding ListFields). r >>= rest_of groups depth os) (one_ends groups (depth - length os) n g list le)

-- its next entry is refused
pub next_stops : (groups : GroupByName) (depth : ℕ) (os : List OpenFields) (g : GroupFields) (n : ℕ) (e : GroupEntry) (list : ListFields) (stop : Stop)
    → n < length g.entries → e ≡ get_or g.entries n e → ((expand : Expand) → with_entry groups expand g.name n e list ≡ Err stop)
    → rest_of groups depth (os ++ (g, n) ∷ []) list ≡ Err stop
next_stops groups depth os g n e list stop lt is h =
    innermost_first groups depth os (g, n) list
    ∙ ap (λ (r : Expanding ListFields). r >>= rest_of groups depth os)
    (one_goes groups (depth - length os) n g e list (Err stop) lt is (h (with_group (depth - length os) groups)))

-- its next entry opens no group
pub next_adds : (groups : GroupByName) (depth : ℕ) (os : List OpenFields) (g : GroupFields) (n : ℕ) (e : GroupEntry) (list after : ListFields)
    → n < length g.entries → e ≡ get_or g.entries n e → ((expand : Expand) → with_entry groups expand g.name n e list ≡ Ok after)
    → rest_of groups depth (os ++ (g, n) ∷ []) list ≡ rest_of groups depth (os ++ (g, n + 1) ∷ []) after
next_adds groups depth os g n e list after lt is h =
    innermost_first groups depth os (g, n) list
    ∙ ap (λ (r : Expanding ListFields). r >>= rest_of groups depth os)
    (one_goes groups (depth - length os) n g e list (Ok after) lt is (h (with_group (depth - length os) groups)))
    ∙ sym (innermost_first groups depth os (g, n + 1) after)

-- its next entry opens a group
pub next_opens : (groups : GroupByName) (depth : ℕ) (os : List OpenFields) (g : GroupFields) (n : ℕ) (e : GroupEntry) (list after : ListFields) (inner : Bor GroupFields)
    → n < length g.entries → e ≡ get_or g.entries n e → length os < depth
    → ((expand : Expand) → with_entry groups expand g.name n e list ≡ entered expand after (Some inner))
    → rest_of groups depth (os ++ (g, n) ∷ []) list ≡ rest_of groups depth ((os ++ (g, n + 1) ∷ []) ++ (inner.now, 0) ∷ []) after
next_opens groups depth os g n e list after inner lt is deep h =
    let k : ℕ = depth - length os in
    let some : k ≡ 0 → ⊥ = λ none. absurd (omega (arith, deep, none)) in
    let one : rest_of_one groups k (g, n) list ≡ (rest_of_one groups (k - 1) (inner.now, 0) after >>= rest_of_one groups k (g, n + 1)) =
    one_goes groups k n g e list (entered (with_group k groups) after (Some inner)) lt is (h (with_group k groups))
    ∙ ap (λ (r : Expanding ListFields). r >>= rest_of_one groups k (g, n + 1)) (inner_one groups k inner.now after some) in
    let outer : length (os ++ (g, n + 1) ∷ []) ≡ length os + 1 = length-append os ((g, n + 1) ∷ []) in
    let less : k - 1 ≡ depth - length (os ++ (g, n + 1) ∷ []) = omega (arith, outer) in
    innermost_first groups depth os (g, n) list
    ∙ ap (λ (r : Expanding ListFields). r >>= rest_of groups depth os) one
    ∙ then_then (rest_of_one groups (k - 1) (inner.now, 0) after) (rest_of_one groups k (g, n + 1)) (rest_of groups depth os)
    ∙ ap (λ (f : ListFields → Expanding ListFields). rest_of_one groups (k - 1) (inner.now, 0) after >>= f)
    (λ i x. sym (innermost_first groups depth os (g, n + 1) x) i)
    ∙ ap (λ (d : ℕ). rest_of_one groups d (inner.now, 0) after >>= rest_of groups depth (os ++ (g, n + 1) ∷ [])) less
    ∙ sym (innermost_first groups depth (os ++ (g, n + 1) ∷ []) (inner.now, 0) after)

-- ---- a group alone

mark_apart : (name : List ℕ) (r : Expanding ListFields)
    → (r >>= λ after. Ok after.requirements) ≡ ((r >>= λ after. Ok (ended name after)) >>= λ after. Ok after.requirements)
mark_apart name (Ok x) = refl
mark_apart name (Err stop) = refl

-- the list of a group is what is left of the group alone
pub list_alone : (groups : GroupByName) (depth : ℕ) (g : GroupFields) (list : ListFields) → (depth ≡ 0 → ⊥)
    → (with_group depth groups g list >>= λ after. Ok after.requirements)
    ≡ (rest_of groups (depth - 1) ((g, 0) ∷ []) list >>= λ after. Ok after.requirements)
unfolding rest_of
list_alone groups depth g list some =
    mark_apart g.name (with_group depth groups g list)
    ∙ ap (λ (r : Expanding ListFields). r >>= λ after. Ok after.requirements) (inner_one groups depth g list some)

-- ---- all groups that are open

-- one more group is open
pub opened_more : (opens : List Open) (o : Open) → opened (opens ++ o ∷ []) ≡ opened opens ++ (o.group.now, o.number) ∷ []
opened_more [] o = refl
opened_more (p ∷ ps) o = ap (λ (os : List OpenFields). (p.group.now, p.number) ∷ os) (opened_more ps o)

-- a group is open again behind its next entry
pub opened_next : (opens pushed : List Open) (g : GroupFields) (n : ℕ) (o : Open) → o.group.now ≡ g → o.number ≡ n + 1 → pushed ≡ opens ++ o ∷ []
    → opened pushed ≡ opened opens ++ (g, n + 1) ∷ []
opened_next opens pushed g n o same next more =
    ap opened more ∙ opened_more opens o ∙ ap (λ (f : GroupFields). opened opens ++ (f, o.number) ∷ []) same ∙ ap (λ (k : ℕ). opened opens ++ (g, k) ∷ []) next

-- no group is open
none_open : (opens rest : List Open) (n : ℕ) → n ≡ 0 → opens ≡ rest ++ [] → rest ≡ take (n - 1) opens → opens ≡ []
none_open opens rest n none all front = all ∙ append-nil rest ∙ front ∙ ap (λ (k : ℕ). take (k - 1) opens) none

-- nothing is left
pub all_end : (groups : GroupByName) (depth : ℕ) (opens rest : List Open) (n : ℕ) (list : ListFields) → n ≡ 0 → opens ≡ rest ++ [] → rest ≡ take (n - 1) opens
    → rest_of groups depth (opened opens) list ≡ Ok list
unfolding rest_of
all_end groups depth opens rest n list none all front = ap (λ (os : List Open). rest_of groups depth (opened os) list) (none_open opens rest n none all front)

opened_length : (opens : List Open) → length (opened opens) ≡ length opens
opened_length [] = refl
opened_length (o ∷ os) = ap suc (opened_length os)

-- fewer are open than groups may include one another
deep_enough : (n m : ℕ) → n ≡ m → m < 2 ^ 63 → n < deepest - 1
deep_enough n m e few = omega (arith, e, few)

-- the next entry of the innermost group was added
pub next_enters : (groups : GroupByName) (opens pushed : List Open) (g : GroupFields) (n : ℕ) (o : Open) (now : List OpenFields) (e : GroupEntry) (list after : ListFields) (inner : Option (Bor GroupFields))
    → n < length g.entries → e ≡ get_or g.entries n e → length opens < 2 ^ 63 → o.group.now ≡ g → o.number ≡ n + 1 → pushed ≡ opens ++ o ∷ []
    → now ≡ with_inner (opened pushed) inner → ((expand : Expand) → with_entry groups expand g.name n e list ≡ entered expand after inner)
    → left_of groups (opened opens ++ (g, n) ∷ []) list ≡ left_of groups now after
next_enters groups opens pushed g n o now e list after inner lt is few same next more opens_now h =
    by_inner inner h ∙ ap (λ (os : List OpenFields). left_of groups (with_inner os inner) after) (sym (opened_next opens pushed g n o same next more))
    ∙ ap (λ (os : List OpenFields). left_of groups os after) (sym opens_now)
  where
    by_inner : (i : Option (Bor GroupFields)) → ((expand : Expand) → with_entry groups expand g.name n e list ≡ entered expand after i)
        → left_of groups (opened opens ++ (g, n) ∷ []) list ≡ left_of groups (with_inner (opened opens ++ (g, n + 1) ∷ []) i) after
    by_inner None h = next_adds groups (deepest - 1) (opened opens) g n e list after lt is h
    by_inner (Some f) h =
        next_opens groups (deepest - 1) (opened opens) g n e list after f lt is (deep_enough (length (opened opens)) (length opens) (opened_length opens) few) h

-- the next entry of the innermost group is refused
pub next_refused : {X : Type 0} (r : Result X ProjectFault) (groups : GroupByName) (os : List OpenFields) (g inside : GroupFields) (n : ℕ) (e : GroupEntry) (list after : ListFields) (others : Expanding ListFields) (fault : ProjectFault)
    → inside ≡ g → n < length inside.entries → e ≡ get_or inside.entries n e → Enters groups inside.name n e list after (Err fault)
    → GoesOn {X = X} (left_of groups (os ++ (g, n) ∷ []) list) others (Err fault)
next_refused r groups os g inside n e list after others NotToml same lt is h = absurd h
next_refused r groups os g inside n e list after others (Shape path) same lt is h =
    subst (λ (f : GroupFields). left_of groups (os ++ (f, n) ∷ []) list ≡ Err (refused path)) same
    (next_stops groups (deepest - 1) os inside n e list (refused path) lt is h)
next_refused r groups os g inside n e list after others (Requirement path) same lt is h = absurd h
next_refused r groups os g inside n e list after others (Unsupported path) same lt is h = absurd h
next_refused r groups os g inside n e list after others EmptyRegion same lt is h = absurd h
next_refused r groups os g inside n e list after others NoMemory same lt is h = tt

-- the list of a group is what is left of the group alone, from nothing on
pub list_from : (groups : GroupByName) (g : GroupFields) (os : List OpenFields) (items : List RequirementFields) (begun done : List (List ℕ))
    → os ≡ (g, 0) ∷ [] → items ≡ [] → begun ≡ g.name ∷ [] → done ≡ []
    → group_list groups g ≡ (left_of groups os (list_fields items begun done) >>= λ after. Ok after.requirements)
list_from groups g os items begun done alone no_items own none_done =
    rw (alone, no_items, own, none_done)
    (list_alone groups deepest g (record { requirements = []; begun = g.name ∷ []; done = [] }) (λ none. absurd (omega (arith, none))))

-- what stops the rest of a group stops its list
pub list_stops : {X Y : Type 0} (r : Result X ProjectFault) (view : X → ListFields) (view' : Y → List RequirementFields) (fault : ProjectFault)
    (part : Expanding ListFields) (whole : Expanding (List RequirementFields)) → ((stop : Stop) → part ≡ Err stop → whole ≡ Err stop)
    → Gives view (Err fault) part → Gives view' (Err fault) whole
list_stops r view view' fault part whole follows h = stops view view' fault part whole follows h

-- each of the groups by their names has its name
pub named_in : (entries : List (List ℕ × Bor GroupFields)) (gs : List GroupFields) → HasGroups entries gs → AreNamed (groups_in entries)
named_in entries gs h name g e = found_named gs name g (sym (h name) ∙ e)
