-- What the functions for C answer and leave: the answers of the layers below, in numbers.
use Rattle.std.specs.Prelude.{ℕ, List, cond, length, eqb, Result}
use Rattle.page.specs.declared.Page.{Page}
use Rattle.page.specs.declared.PackError.{PackError}
use Rattle.page.specs.declared.Unpacked.{Unpacked}
use Rattle.page.specs.Layout.{value_size}
use Rattle.page.specs.Answers.{packs, pack_number, tested, test_number, test_values}
use Rattle.inspection.specs.Inspected.{inspected, inspect_number, inspect_place}
use Rattle.weeks.specs.Answers.{week_test, converted, test_code, conversion_code}

-- kind to start
abbrev pub field_count : ℕ
field_count = 6

abbrev pub numbered : Result (Unit {0}) PackError × List ℕ → ℕ × List ℕ
numbered r = (pack_number r.0, r.1)

-- a value of another length is refused as line 1 refuses
unfoldable pub packed_for : Page → List ℕ → ℕ → ℕ → List ℕ → ℕ × List ℕ
packed_for p value place files out = cond (eqb (length value) value_size) (numbered (packs p value place files out)) (1, out)

-- the fields are given of a page that fits, and left otherwise
unfoldable pub fields_given : Unpacked → List ℕ → ℕ × List ℕ
fields_given u fields = (test_number u, cond (eqb (test_number u) 0) (test_values u) fields)

unfoldable pub tested_for : List ℕ → ℕ → ℕ → List ℕ → ℕ × List ℕ
tested_for part place files fields = cond (eqb (length fields) field_count) (fields_given (tested part place files) fields) (1, fields)

-- above every place
abbrev pub refusal_number : ℕ
refusal_number = 0xffffffffffffffff

unfoldable pub inspected_for : List ℕ → ℕ → ℕ
inspected_for s files = cond (eqb (inspect_number (inspected s files)) 0) (inspect_place (inspected s files)) refusal_number

unfoldable pub week_tested_for : List ℕ → ℕ
week_tested_for s = test_code (week_test s)

unfoldable pub converted_for : List ℕ → ℕ → List ℕ → ℕ × List ℕ
converted_for s m out = (conversion_code (converted s m out).0, (converted s m out).1)
