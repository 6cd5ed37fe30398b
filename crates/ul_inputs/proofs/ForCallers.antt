-- Lemmas for crates above: inputs, one after another.
use Rattle.std.proofs.Common.{◌≡◌, Option, Some, None, IfSome, Result, Ok, Err, subst, inl, inr}
use Rattle.ul_inputs.specs.Inputs.{Said, said_on}
use Rattle.ul_inputs.specs.Refused.{Refused}
use Rattle.ul_inputs.specs.Refusals.{Answers, IsRefusalFor, failed_path, refused_of}
use Rattle.ul_inputs.specs.declared.refusal.Refusal.{Refusal}
use Rattle.ul_inputs.specs.declared.refusal.Refusal.TheVariants.{Malformed, Limit, ReadFault, NoMemory}

-- a fact on what there is, from another
some_from : {X : Type 0} (o : Option X) (P Q : X → Type 0) → ((x : X) → P x → Q x) → IfSome o P → IfSome o Q
some_from None P Q w h = tt
some_from (Some x) P Q w h = w x h

-- the refusal of the first ends both
pub refuses : {T U A B : Type 0} (view : T → A) (last : U → B) (e : Refusal) (first : Said A) (next : A → Said B)
    → Answers view (Err e) first → Answers last (Err e) (said_on first next)
refuses view last e first next h = (
  some_from (refused_of e) _ _ (λ f g. inl g) h.0,
  some_from (failed_path e) _ _ (λ p g. inl g) h.1,
)

-- after the first the next answers
pub goes_on : {U A B : Type 0} (last : U → B) (r : Result U Refusal) (x : A) (first : Said A) (next : A → Said B)
    → first.gives (Ok x) → Answers last r (next x) → Answers last r (said_on first next)
goes_on last (Ok y) x first next gave h = inr (record { value = x; gave = gave; answers = h })
goes_on last (Err e) x first next gave h = (
  some_from (refused_of e) _ _ (λ f g. inr (record { value = x; gave = gave; answers = g })) h.0,
  some_from (failed_path e) _ _ (λ p g. inr (record { value = x; gave = gave; read = g })) h.1,
)

some_same : (x y : Refused) → Some x ≡ Some y → x ≡ y
some_same x y e = cc

-- a refusal that says what is an answer
pub refused_by : {T A : Type 0} (view : T → A) (f : Refused) (e : Refusal) (said : Said A) → IsRefusalFor (Some f) e → said.gives (Err f)
    → Answers view (Err e) said
refused_by view f (Malformed file place) said is gives = (subst (λ x. said.gives (Err x)) (some_same _ _ is) gives, tt)
refused_by view f (Limit name number) said is gives = (subst (λ x. said.gives (Err x)) (some_same _ _ is) gives, tt)
refused_by view f (ReadFault path) said is gives = absurd is
refused_by view f NoMemory said is gives = (tt, tt)

-- a refusal that says nothing
pub refused_none : {T A : Type 0} (view : T → A) (e : Refusal) (said : Said A) → IsRefusalFor None e → Answers view (Err e) said
refused_none view (Malformed file place) said is = absurd (cc)
refused_none view (Limit name number) said is = absurd (cc)
refused_none view (ReadFault path) said is = absurd is
refused_none view NoMemory said is = (tt, tt)
