-- The worked examples, by computation.
use Rattle.std.proofs.Common.{refl}
use Rattle.std.specs.Fmt.{digits as digits_in}
use Rattle.ul_version.specs.Order.{padded_release, release_cmp, version_cmp}
use Rattle.ul_version.specs.Reading.{after_white, before_white, after_word, digits, after_digits, value_after, number, required_number, marked_digits, epoch, points, release, pre, post, dev, segment, segments, local, fields_of, version_of}
use Rattle.ul_version.specs.Texts.{version_text}
use Rattle.ul_version.specs.Vectors.{NoReadings, NormalTexts, Orders, Readings, is_increasing}

pub readings : Readings
unfolding after_white before_white after_word digits after_digits value_after number required_number marked_digits epoch points release pre post dev segment segments local fields_of version_of
readings = record {
  letter = refl;
  spaces_and_case = refl;
  dash_number = refl;
  longest_first = refl;
  candidate = refl;
  preview = refl;
  short_preview = refl;
  beta = refl;
  revision = refl;
  leading_zeros = refl;
  local_case = refl;
  local_zeros = refl;
  two_suffixes = refl;
  dev = refl;
  largest = refl;
}

pub no_readings : NoReadings
unfolding after_white before_white after_word digits after_digits value_after number required_number marked_digits epoch points release pre post dev segment segments local fields_of version_of
no_readings = record {
  empty = refl;
  ends_in_point = refl;
  empty_local = refl;
  no_release = refl;
  two_points = refl;
  epoch_alone = refl;
  too_large = refl;
  empty_segment = refl;
}

pub orders : Orders
unfolding after_white before_white after_word digits after_digits value_after number required_number marked_digits epoch points release pre post dev segment segments local fields_of version_of padded_release release_cmp version_cmp is_increasing
orders = record { increasing = refl; locals = refl; digits = refl; zeros = refl; epoch = refl }

pub texts : NormalTexts
unfolding after_white before_white after_word digits after_digits value_after number required_number marked_digits epoch points release pre post dev segment segments local fields_of version_of version_text digits_in
texts = record { epoch = refl; suffixes = refl; local = refl }
