-- The grammar of requirements as a relation between a text and the requirement that it spells (PEP 508, "Grammar"):
--     requirement = name [extras] [specifiers | "(" specifiers ")"] [";" marker]
--     address     = name [extras] "@" url [blank ";" marker]
--     extras      = "[" [name *("," name)] "]"
-- Each definition is one rule. Blanks, which are space and tab, may stand between all parts, and white space of any
-- kind at the ends of the text. A text with `@` behind the name or the extras is one by a URL, whatever follows; what it
-- requires is told where it is an address.
use Rattle.std.specs.Prelude.{◌≡◌, ◌⊎◌, ℕ, ◌==◌, true, false, List, [], ◌∷◌, ◌++◌, Option, Some, None}
use Rattle.std.specs.List.{list_all, list_any, slice_split}
use Rattle.ul_base.specs.Names.{is_name_byte, name_of}
use Rattle.ul_version.specs.Ascii.{after_all, at_sign, begins, comma, is_blank, is_white, left_bracket, left_parenthesis, right_bracket, right_parenthesis, semicolon, text_between}
use Rattle.ul_specifier.specs.Clauses.{ClauseFields}
use Rattle.ul_specifier.specs.Reading.{specifiers_of}
use Rattle.ul_comparison.specs.Formulas.{Formula}
use Rattle.ul_marker.specs.Reading.{marker_of}
use Rattle.ul_requirement.specs.Fields.{RequirementFields}
use Rattle.ul_requirement.specs.Reading.{is_inner_byte, is_url_byte, name_set}

-- a byte stands in front of a text
abbrev pub IsFirstByte : ℕ → List ℕ → Type 0
IsFirstByte byte text = begins (λ b. b == byte) text ≡ true

-- another byte, or none, stands in front of a text
abbrev pub IsNotFirstByte : ℕ → List ℕ → Type 0
IsNotFirstByte byte text = begins (λ b. b == byte) text ≡ false

-- a text doesn't have a byte
abbrev pub HasNo : ℕ → List ℕ → Type 0
HasNo byte text = list_any (λ b. b == byte) text ≡ false

-- each piece is a name, with blanks around it
abbrev pub AreNames : List (List ℕ) → List (List ℕ) → Type 0
AreNames [] [] = Unit {0}
AreNames [] (name ∷ names) = ⊥
AreNames (piece ∷ pieces) [] = ⊥
AreNames (piece ∷ pieces) (name ∷ names) = (name_of (text_between is_blank piece) ≡ Some name) × AreNames pieces names

-- [name *("," name)]: names between commas, in their order, each once
abbrev pub AreExtraNames : List ℕ → List (List ℕ) → Type 0
AreExtraNames [] extras = extras ≡ []
AreExtraNames (b ∷ text) extras =
    (names : List (List ℕ)) × AreNames (slice_split (λ c. c == comma) (b ∷ text)) names × (extras ≡ name_set names)

-- ["[" [name *("," name)] "]"], and what stands behind it
pub data AreExtras (text : List ℕ) (extras : List (List ℕ)) (rest : List ℕ) : Type 0 where
  no_extras : IsNotFirstByte left_bracket text → extras ≡ [] → rest ≡ text → AreExtras text extras rest
  bracketed : (inside : List ℕ) → text ≡ left_bracket ∷ (inside ++ right_bracket ∷ rest) → HasNo right_bracket inside
      → AreExtraNames (text_between is_blank inside) extras → AreExtras text extras rest

-- name [extras]: the name is the longest run of its bytes, and what stands behind begins with no blank
pub record IsFront (text name : List ℕ) (extras : List (List ℕ)) (behind : List ℕ) : Type 0 where
  pub name_text : List ℕ
  pub after_name : List ℕ
  pub after_extras : List ℕ
  pub spelled : text ≡ name_text ++ after_name
  pub is_name : name_of name_text ≡ Some name
  pub longest : begins is_name_byte after_name ≡ false
  pub are_extras : AreExtras (after_all is_blank after_name) extras after_extras
  pub is_behind : behind ≡ after_all is_blank after_extras

-- specifiers | "(" specifiers ")"
pub data AreSpecifiers (text : List ℕ) (clauses : List ClauseFields) : Type 0 where
  bare : IsNotFirstByte left_parenthesis text → specifiers_of text ≡ Some clauses → AreSpecifiers text clauses
  enclosed : (inside : List ℕ) → text ≡ left_parenthesis ∷ (inside ++ right_parenthesis ∷ []) → specifiers_of inside ≡ Some clauses → AreSpecifiers text clauses

-- behind the front a semicolon stands, and behind it a marker
abbrev pub HasMarker : List ℕ → List ℕ → Option Formula → Type 0
HasMarker text front marker =
    (after : List ℕ) × (formula : Formula) × (text ≡ front ++ semicolon ∷ after)
    × (marker_of after ≡ Some formula) × (marker ≡ Some formula)

-- [specifiers] [";" marker], of printable ASCII and tabs
pub record IsTail (text : List ℕ) (clauses : List ClauseFields) (marker : Option Formula) : Type 0 where
  pub front : List ℕ
  pub inner : list_all is_inner_byte text ≡ true
  pub are_specifiers : AreSpecifiers (text_between is_blank front) clauses
  pub no_semicolon : HasNo semicolon front
  pub is_marker : ((text ≡ front) × (marker ≡ None)) ⊎ HasMarker text front marker

-- a text spells a requirement
pub record Spells (text : List ℕ) (q : RequirementFields) : Type 0 where
  pub behind : List ℕ
  pub is_front : IsFront (text_between is_white text) q.name q.extras behind
  pub no_address : IsNotFirstByte at_sign behind
  pub is_tail : IsTail behind q.specifiers q.marker

-- a text spells a requirement by a URL
pub record IsAddress (text : List ℕ) : Type 0 where
  pub name : List ℕ
  pub extras : List (List ℕ)
  pub behind : List ℕ
  pub is_front : IsFront (text_between is_white text) name extras behind
  pub is_address : IsFirstByte at_sign behind

-- url [blank ";" marker], of printable ASCII and tabs: the URL is the longest run of its bytes, so that the semicolon
-- stands behind a blank
pub record IsUrlTail (text : List ℕ) (marker : Option Formula) : Type 0 where
  pub url : List ℕ
  pub after_url : List ℕ
  pub inner : list_all is_inner_byte text ≡ true
  pub spelled : text ≡ url ++ after_url
  pub is_url : list_all is_url_byte url ≡ true
  pub not_empty : url ≡ [] → ⊥
  pub longest : begins is_url_byte after_url ≡ false
  pub is_marker : ((after_all is_blank after_url ≡ []) × (marker ≡ None)) ⊎ HasMarker (after_all is_blank after_url) [] marker

-- a text spells a requirement by a URL, and this is what it requires: any version of the name
pub record SpellsByUrl (text : List ℕ) (q : RequirementFields) : Type 0 where
  pub after_sign : List ℕ
  pub is_front : IsFront (text_between is_white text) q.name q.extras (at_sign ∷ after_sign)
  pub no_specifiers : q.specifiers ≡ []
  pub is_tail : IsUrlTail (after_all is_blank after_sign) q.marker
