-- What the page layer's functions answer and leave, on all inputs: pack (encode), the page test (decode), the quick looks for
-- an image, and the value; the number and the values of each answer; and what a cut leaves of an append.
use Rattle.std.specs.Prelude.{ℕ, ◌-◌, List, [], ◌∷◌, ◌++◌, Bool, true, false, ◌&&◌, cond, length, take, replicate, eqb, ltb, Option, Some, None, Result, Ok, Err}
use Rattle.encoding.specs.Bytes.{zeros}
use Rattle.page.specs.declared.Page.{Page}
use Rattle.page.specs.declared.Unpacked.{Unpacked}
use Rattle.page.specs.declared.Unpacked.TheVariants.{Refused, Blank, Torn, Opening, Image, Outcome, Unfit}
use Rattle.page.specs.declared.PackError as pack_error
use Rattle.page.specs.declared.PackError.{PackError}
use Rattle.page.specs.Layout.{page_size, most_places, most_files, value_size}
use Rattle.page.specs.Table.{packed, fields_of, value_of, within, meets_rules, fits, torn}

-- line 1 of the refusals, for a part, a place and a file count: this is what passes it
unfoldable pub in_bounds : ℕ → ℕ → ℕ → Bool
in_bounds size place files = eqb size page_size && within place 1 most_places && within files 1 most_files

-- ---- the page test

-- the fields of a page that fits, by their kind
abbrev pub by_kind : Page → Unpacked
by_kind p = cond (eqb p.kind 1) (Opening p) (cond (eqb p.kind 2) (Image p) (Outcome p))

unfoldable pub tested : List ℕ → ℕ → ℕ → Unpacked
tested s place files =
    cond (in_bounds (length s) place files)
    (cond (zeros s) Blank (cond (torn s) Torn (cond (fits s place files) (by_kind (fields_of s)) Unfit)))
    Refused

-- blank, fit, an opening, a carried one, and an outcome of an action, of what the page test says
abbrev pub is_blank_page : Unpacked → Bool
is_blank_page Refused = false
is_blank_page Blank = true
is_blank_page Torn = false
is_blank_page (Opening p) = false
is_blank_page (Image p) = false
is_blank_page (Outcome p) = false
is_blank_page Unfit = false

abbrev pub is_fit_page : Unpacked → Bool
is_fit_page Refused = false
is_fit_page Blank = false
is_fit_page Torn = false
is_fit_page (Opening p) = true
is_fit_page (Image p) = true
is_fit_page (Outcome p) = true
is_fit_page Unfit = false

unfoldable pub is_opening_page : Unpacked → Bool
is_opening_page Refused = false
is_opening_page Blank = false
is_opening_page Torn = false
is_opening_page (Opening p) = true
is_opening_page (Image p) = false
is_opening_page (Outcome p) = false
is_opening_page Unfit = false

unfoldable pub is_carried_page : Unpacked → Bool
is_carried_page Refused = false
is_carried_page Blank = false
is_carried_page Torn = false
is_carried_page (Opening p) = eqb p.small 1
is_carried_page (Image p) = false
is_carried_page (Outcome p) = false
is_carried_page Unfit = false

unfoldable pub is_outcome_of : ℕ → Unpacked → Bool
is_outcome_of a Refused = false
is_outcome_of a Blank = false
is_outcome_of a Torn = false
is_outcome_of a (Opening p) = false
is_outcome_of a (Image p) = false
is_outcome_of a (Outcome p) = eqb p.action a
is_outcome_of a Unfit = false

-- the number of an answer: 0 the fields, 1 refused by line 1, 2 unfit, 3 blank, 4 torn
abbrev pub test_number : Unpacked → ℕ
test_number Refused = 1
test_number Blank = 3
test_number Torn = 4
test_number (Opening p) = 0
test_number (Image p) = 0
test_number (Outcome p) = 0
test_number Unfit = 2

abbrev pub field_list : Page → List ℕ
field_list p = p.kind ∷ p.small ∷ p.file ∷ p.action ∷ p.link ∷ p.start ∷ []

-- its values: the fields, kind to start
abbrev pub test_values : Unpacked → List ℕ
test_values Refused = []
test_values Blank = []
test_values Torn = []
test_values (Opening p) = field_list p
test_values (Image p) = field_list p
test_values (Outcome p) = field_list p
test_values Unfit = []

-- ---- pack

-- its answer, and the bytes that it leaves
unfoldable pub packs : Page → List ℕ → ℕ → ℕ → List ℕ → Result (Unit {0}) PackError × List ℕ
packs p value place files out =
    cond (in_bounds (length out) place files)
    (cond (meets_rules p value place files) (Ok tt, packed p value place) (Err pack_error.PackError.Unfit, out))
    (Err pack_error.PackError.OutOfBounds, out)

-- the number of an answer: 0 the page is written, else the line of the refusal
abbrev pub pack_number : Result (Unit {0}) PackError → ℕ
pack_number (Ok tt) = 0
pack_number (Err pack_error.PackError.OutOfBounds) = 1
pack_number (Err pack_error.PackError.Unfit) = 2

-- ---- the quick looks, and the value

-- by cases, for the layers above: f of an image's fields, d of any other answer
abbrev pub on_image : {A : Type 0} → Unpacked → (Page → A) → A → A
on_image Refused f d = d
on_image Blank f d = d
on_image Torn f d = d
on_image (Opening p) f d = d
on_image (Image p) f d = f p
on_image (Outcome p) f d = d
on_image Unfit f d = d

-- an image that passes a test, of what the page test says
abbrev pub image_that : (Page → Bool) → Unpacked → Option Page
image_that passes u = on_image u (λ (p : Page). cond (passes p) (Some p) None) None

-- an image of this file; one that starts above a time
unfoldable pub image_of_file : ℕ → Unpacked → Option Page
image_of_file file u = image_that (λ (p : Page). eqb p.file file) u

unfoldable pub image_above : ℕ → Unpacked → Option Page
image_above time u = image_that (λ (p : Page). ltb time p.start) u

-- the value's 32 bytes, zeros where the part is not a page's size
unfoldable pub value_in : List ℕ → List ℕ
value_in s = cond (eqb (length s) page_size) (value_of s) (replicate value_size 0)

-- ---- cuts

-- what a blank place holds when an append of these bytes is cut after n of them
abbrev pub cut : ℕ → List ℕ → List ℕ
cut n s = take n s ++ replicate (length s - n) 0
