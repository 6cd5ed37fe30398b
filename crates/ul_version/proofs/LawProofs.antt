-- The proofs of the laws of `specs/Laws.antt`.
use Rattle.std.proofs.Common.{◌≡◌, Some, sym, ap, ◌∙◌}
use Rattle.std.specs.Cmp.{upto}
use Rattle.std.proofs.lemmas.Cmp.{tied_itself}
use Rattle.ul_version.specs.Fields.{Fields}
use Rattle.ul_version.specs.Laws.{IsOrder, ReadIsSpelled, ReadIsVersion, SpelledIsRead, EarlierIsLongest, TextIsPlain, TextTells, TiesAreZeros, trimmed_lowercase}
use Rattle.ul_version.specs.Reading.{version_of}
use Rattle.ul_version.proofs.OrderLaws.{version_total, version_ties, zeros_tie}
use Rattle.ul_version.proofs.RoundTrip.{version-read, version-text, version-filled}
use Rattle.ul_version.proofs.Spelling.{fields-spelled}
use Rattle.ul_version.proofs.Complete.{fields-complete}
use Rattle.ul_version.proofs.Longest.{fields-longest}
use Rattle.ul_version.proofs.Bounds.{spelled-version}

pub order : IsOrder
order = record {
  reflexive = tied_itself version_total;
  antisymmetric = version_total.antisymm;
  transitive = upto version_total;
  strict = version_total.trans;
  alike = version_total.congr;
}

pub ties : TiesAreZeros
ties f g = (version_ties f g, zeros_tie f g)

inside : (f g : Fields) → Some f ≡ Some g → f ≡ g
inside f g e = cc e

pub tells : TextTells
tells f g v w e = inside f g (sym (version-read f v) ∙ ap version_of e ∙ version-read g w)

pub plain : TextIsPlain
plain f v = (version-text f v, version-filled f v)

pub spelled : ReadIsSpelled
unfolding version_of
spelled text f e = fields-spelled (trimmed_lowercase text) f e

pub versions : ReadIsVersion
versions text f e = spelled-version (trimmed_lowercase text) f (spelled text f e)

pub read : SpelledIsRead
unfolding version_of
read text f h = fields-complete (trimmed_lowercase text) f h

pub longest : EarlierIsLongest
unfolding version_of
longest text f g other e = fields-longest (trimmed_lowercase text) f g other e
