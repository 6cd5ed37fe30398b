-- Each turn leaves fewer turns.
use Rattle.std.proofs.Common.{◌≡◌, ◌+◌, ◌<◌, ◌≤◌, ◌++◌, ◌∙◌, ◌||◌, ℕ, List, [], ◌∷◌, length, refl, ap, sym, subst, arith, Bool, true, false, cond, Option, Some, None, option_map, sum_by}
use Rattle.std.proofs.lemmas.List.Sums.{sum_by-cons, sum_by-le-sum_by, sum_by_push}
use Rattle.std.proofs.lemmas.Cmp.{nat_list_cmp_total, tied_itself}
use Rattle.std.specs.BTreeMap.{is_at}
use Rattle.std.specs.BTreeSet.{insert_key}
use Rattle.std.specs.Borrow.{Bor}
use Rattle.std.specs.Map.{lookup}
use Rattle.std.specs.Ordering.{is_eq, match_ordering}
use Rattle.std.specs.declared.cmp.Ordering.{Ordering}
use Rattle.std.specs.declared.cmp.Ordering.TheVariants.{Less, Equal, Greater}
use Rattle.ul_base.specs.Names.{name_cmp}
use Rattle.ul_project.specs.Groups.{GroupFields}
use Rattle.ul_project.specs.Lists.{has_name}
use Rattle.ul_groups.specs.Expanded.{with_one}
use Rattle.ul_groups.specs.GroupMaps.{groups_in}
use Rattle.ul_groups.specs.Opened.{OpenFields, opened, with_inner}
use Rattle.ul_groups.specs.Turns.{turns_left, turns_of, turns_unless_begun}
use Rattle.ul_groups.specs.declared.expansion.Open.{Open}
use Rattle.ul_groups.proofs.NameLists.{same_name}
use Rattle.ul_groups.proofs.Opened.{opened_next}

-- ---- names

-- a name is level with itself
own_name : (name : List ℕ) → is_at (name_cmp name) name ≡ true
own_name name = ap is_eq (tied_itself nat_list_cmp_total name)

or_right : (a b : Bool) → b ≡ true → (a || b) ≡ true
or_right true b h = refl
or_right false b h = h

or_more : (a b c : Bool) → (b ≡ true → c ≡ true) → (a || b) ≡ true → (a || c) ≡ true
or_more true b c f h = refl
or_more false b c f h = f h

-- a name that is there is there beside one more
still_there : (names : List (List ℕ)) (one name : List ℕ) → has_name names name ≡ true → has_name (with_one names one) name ≡ true
still_there [] one name h = absurd (cc h)
still_there (n ∷ ns) one name h = by (name_cmp one n) (still_there ns one name)
  where
    by : (o : Ordering) → (has_name ns name ≡ true → has_name (with_one ns one) name ≡ true)
        → has_name (match_ordering o (one ∷ n ∷ ns) (n ∷ ns) (n ∷ insert_key name_cmp ns one)) name ≡ true
    by Less more = or_right (is_at (name_cmp name) one) (has_name (n ∷ ns) name) h
    by Equal more = h
    by Greater more = or_more (is_at (name_cmp name) n) (has_name ns name) (has_name (with_one ns one) name) more h

or_left : (a b : Bool) → a ≡ true → (a || b) ≡ true
or_left true b h = refl
or_left false b h = absurd (cc h)

-- the one more is there
one_there : (names : List (List ℕ)) (one : List ℕ) → has_name (with_one names one) one ≡ true
one_there [] one = or_left (is_at (name_cmp one) one) false (own_name one)
one_there (n ∷ ns) one = by (name_cmp one n) refl (one_there ns one)
  where
    by : (o : Ordering) → name_cmp one n ≡ o → has_name (with_one ns one) one ≡ true
        → has_name (match_ordering o (one ∷ n ∷ ns) (n ∷ ns) (n ∷ insert_key name_cmp ns one)) one ≡ true
    by Less e behind = or_left (is_at (name_cmp one) one) (has_name (n ∷ ns) one) (own_name one)
    by Equal e behind = or_left (is_at (name_cmp one) n) (has_name ns one) (ap is_eq e)
    by Greater e behind = or_right (is_at (name_cmp one) n) (has_name (with_one ns one) one) behind

-- ---- groups that aren't begun

none_less : (was is : Bool) (n : ℕ) → (was ≡ true → is ≡ true) → cond is 0 n ≤ cond was 0 n
none_less true is n f = subst (λ (b : Bool). cond b 0 n ≤ 0) (sym (f refl)) (omega arith)
none_less false true n f = omega arith
none_less false false n f = omega arith

-- no group has more turns where one more is begun
fewer_begun : (names : List (List ℕ)) (one : List ℕ) (entry : List ℕ × Bor GroupFields)
    → turns_unless_begun (with_one names one) entry ≤ turns_unless_begun names entry
fewer_begun names one entry =
    none_less (has_name names entry.0) (has_name (with_one names one) entry.0) (turns_of (entry.1.now, 0)) (still_there names one entry.0)

-- the turns of a group that is begun are no longer those of one that isn't
pub begun_takes : (entries : List (List ℕ × Bor GroupFields)) (names : List (List ℕ)) (name : List ℕ) (g : GroupFields)
    → groups_in entries name ≡ Some g → has_name names name ≡ false
    → turns_of (g, 0) + sum_by (turns_unless_begun (with_one names name)) entries ≤ sum_by (turns_unless_begun names) entries
begun_takes [] names name g found new = absurd (cc found)
begun_takes (e ∷ es) names name g found new =
    omega (
      arith,
      sum_by-cons (turns_unless_begun (with_one names name)) e es,
      sum_by-cons (turns_unless_begun names) e es,
      by (is_at (name_cmp name) e.0) refl found (λ (f : groups_in es name ≡ Some g). begun_takes es names name g f new),
    )
  where
    less : sum_by (turns_unless_begun (with_one names name)) es ≤ sum_by (turns_unless_begun names) es
    less = sum_by-le-sum_by (turns_unless_begun (with_one names name)) (turns_unless_begun names) es (fewer_begun names name)

    by : (b : Bool) → is_at (name_cmp name) e.0 ≡ b → option_map (λ (f : Bor GroupFields). f.now) (cond b (Some e.1) (lookup (is_at (name_cmp name)) es)) ≡ Some g
        → (groups_in es name ≡ Some g
        → turns_of (g, 0) + sum_by (turns_unless_begun (with_one names name)) es ≤ sum_by (turns_unless_begun names) es)
        → turns_of (g, 0) + (turns_unless_begun (with_one names name) e + sum_by (turns_unless_begun (with_one names name)) es)
        ≤ turns_unless_begun names e + sum_by (turns_unless_begun names) es
    by true here found behind =
        let k : e.0 ≡ name = sym (same_name name e.0 here) in
        let f : e.1.now ≡ g = cc in
        let before : turns_unless_begun names e ≡ turns_of (g, 0) =
        ap (λ (n : List ℕ). cond (has_name names n) 0 (turns_of (e.1.now, 0))) k ∙ ap (λ (b : Bool). cond b 0 (turns_of (e.1.now, 0))) new
        ∙ ap (λ (h : GroupFields). turns_of (h, 0)) f in
        let after : turns_unless_begun (with_one names name) e ≡ 0 =
        ap (λ (n : List ℕ). cond (has_name (with_one names name) n) 0 (turns_of (e.1.now, 0))) k
        ∙ ap (λ (b : Bool). cond b 0 (turns_of (e.1.now, 0))) (one_there names name) in
        omega (arith, before, after, less)
    by false other found behind = omega (arith, fewer_begun names name e, behind found)

-- an include that opens a group takes the turns of a group that isn't begun
pub include_turns : (entries : List (List ℕ × Bor GroupFields)) (names begun : List (List ℕ)) (name : List ℕ) (g : Bor GroupFields)
    → groups_in entries name ≡ Some g.now → has_name names name ≡ false → begun ≡ with_one names name
    → turns_left entries (with_inner [] (Some g)) begun ≤ turns_left entries [] names
include_turns entries names begun name g found new one =
    subst (λ (ns : List (List ℕ)). turns_left entries (with_inner [] (Some g)) ns ≤ turns_left entries [] names) (sym one)
    (omega (arith, sum_by-cons turns_of (g.now, 0) [], begun_takes entries names name g.now found new))

-- ---- groups that are open

inner_turns : (os : List OpenFields) (inner : Option (Bor GroupFields))
    → sum_by turns_of (with_inner os inner) ≡ sum_by turns_of os + sum_by turns_of (with_inner [] inner)
inner_turns os None = omega arith
inner_turns os (Some g) = omega (arith, sum_by_push turns_of os (g.now, 0), sum_by-cons turns_of (g.now, 0) [])

-- the innermost group ends
pub end_turns : (entries : List (List ℕ × Bor GroupFields)) (os : List OpenFields) (o : OpenFields) (begun : List (List ℕ))
    → turns_left entries os begun < turns_left entries (os ++ o ∷ []) begun
end_turns entries os o begun = omega (arith, sum_by_push turns_of os o)

-- the next entry of the innermost group was added
pub next_turns : (entries : List (List ℕ × Bor GroupFields)) (opens pushed : List Open) (g : GroupFields) (n : ℕ) (o : Open) (now : List OpenFields)
    (before after : List (List ℕ)) (inner : Option (Bor GroupFields)) → n < length g.entries → o.group.now ≡ g → o.number ≡ n + 1 → pushed ≡ opens ++ o ∷ []
    → now ≡ with_inner (opened pushed) inner → turns_left entries (with_inner [] inner) after ≤ turns_left entries [] before
    → turns_left entries now after < turns_left entries (opened opens ++ (g, n) ∷ []) before
next_turns entries opens pushed g n o now before after inner lt same next more opens_now h =
    let now_is : sum_by turns_of now ≡ (sum_by turns_of (opened opens) + turns_of (g, n + 1)) + sum_by turns_of (with_inner [] inner) =
    ap (sum_by turns_of) opens_now ∙ inner_turns (opened pushed) inner
    ∙ ap (λ (os : List OpenFields). sum_by turns_of os + sum_by turns_of (with_inner [] inner)) (opened_next opens pushed g n o same next more)
    ∙ ap (λ (k : ℕ). k + sum_by turns_of (with_inner [] inner)) (sum_by_push turns_of (opened opens) (g, n + 1)) in
    omega (arith, now_is, sum_by_push turns_of (opened opens) (g, n), lt, h)
