-- The texts at keys, one after another.
use Rattle.std.proofs.Common.{◌≡◌, ℕ, List, [], ◌∷◌, ◌++◌, Option, Some, None, Result, Ok, Err, refl, sym, subst, ◌∙◌, ap, append_assoc}
use Rattle.std.specs.Option.{IfSome}
use Rattle.std.specs.Result.{IsErrAnd}
use Rattle.serde_json.specs.Data.{Data}
use Rattle.ul_comparison.specs.MachineFiles.{◌>>=◌, MachineRefusal, refusal_of, Tells, text_in, texts_in}
use Rattle.ul_comparison.specs.declared.env_fault.EnvFault.{EnvFault}

-- the texts found, and then the rest
abbrev pub texts_then : List (List ℕ) → Result (List (List ℕ)) MachineRefusal → Result (List (List ℕ)) MachineRefusal
texts_then found rest = rest >>= (λ texts. Ok (found ++ texts))

then_one : (found : List (List ℕ)) (text : List ℕ) (rest : Result (List (List ℕ)) MachineRefusal) → texts_then found (rest >>= (λ texts. Ok (text ∷ texts))) ≡ texts_then (found ++ text ∷ []) rest
then_one found text (Ok texts) = ap Ok (simp append_assoc)
then_one found text (Err e) = refl

-- one isn't there
pub texts_then-none : (found : List (List ℕ)) (key : List ℕ) (keys : List (List ℕ)) (file : Data) (refusal : MachineRefusal) → text_in key file ≡ Err refusal → texts_then found (texts_in (key ∷ keys) file) ≡ Err refusal
texts_then-none found key keys file refusal e = rw e refl

-- where one isn't there, the first that isn't is told
pub texts_refused : (found : List (List ℕ)) (all : Result (List (List ℕ)) MachineRefusal) (key : List ℕ) (keys : List (List ℕ)) (file : Data) (e : Option MachineRefusal) → texts_then found (texts_in (key ∷ keys) file) ≡ all → IfSome e (λ f. text_in key file ≡ Err f) → IfSome e (λ f. all ≡ Err f)
texts_refused found all key keys file None h r = tt
texts_refused found all key keys file (Some f) h r = sym h ∙ texts_then-none found key keys file f r

-- a refusal that is passed on
pub passed_on : {X Y : Type 0} (view : X → Y) (r : Result X EnvFault) (e : EnvFault) (told : Result Y MachineRefusal) → IsErrAnd r (λ f. f ≡ e) → IfSome (refusal_of e) (λ f. told ≡ Err f) → Tells view r told
passed_on view (Ok x) e told h refused = absurd h
passed_on view (Err f) e told h refused = subst (λ f. IfSome (refusal_of f) (λ g. told ≡ Err g)) (sym h) refused
