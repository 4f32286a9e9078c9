-- Every offset falls in exactly one row of its table, or in none; every encoding names one system register, or none.
use Rattle.std.specs.Prelude.{Some, None}
use Prim.Native.Nat.{ℕ, zero, suc, ◌+◌, ◌*◌, ◌-◌, ◌/◌, ◌%◌, ◌<◌, ◌≤◌}
use mathlib.Core.Path.{◌≡◌, refl, sym, ap, ◌∙◌}
use mathlib.Core.Bool.{Bool, true, false, not, ◌&&◌}
use mathlib.Core.List.Memᴰ
use mathlib.Core.List.{List, [], ◌∷◌, Memᴰ}
use mathlib.Core.Logic.{◌⊎◌, inl, inr}
use native.Mathlib.Omega.{arith}
use lib.Dec.{eqb, ltb, leb}
use lib.ListN.{length, get_or}
use borrow.Author.Tests.{le-leb, lt-ltb, ltb-true, leb-true, eqb-true, eqb-false, eq-eqb, not-true}
use Rattle.model.specs.Registers.{Decoded, Row, row, in_row, decode, rows, banks, words_of}
use Rattle.model.specs.Interface.{SystemRow, system_rows, system_in, system}
use Rattle.model.specs.declared.View.{View}
use Rattle.model.specs.declared.View.TheVariants.{Distributor, Frame}
use Rattle.model.specs.declared.Flags.TheVariants.{Group, SetEnable, SetPending, SetActive}
use Rattle.model.specs.declared.Register.{Register}
use Rattle.model.specs.declared.Register.TheVariants.{Control, Status, Bits, Priority, Config, Route}
use Rattle.model.specs.declared.SystemRegister.{SystemRegister}
use Rattle.model.specs.declared.SystemRegister.TheVariants.{Unnamed}
use Rattle.model.proofs.Tests.{both, not-both}

-- ---- a list of which at most one member passes a test

-- r is the one member that passes the test f, and the value v is w
pub record Only {A B : Type 0} (f : A → Bool) (xs : List A) (r : A) (v w : B) : Type 0 where
  pub member : Memᴰ r xs
  pub passes : f r ≡ true
  pub only : (q : A) → Memᴰ q xs → f q ≡ true → q ≡ r
  pub is : v ≡ w

-- no member passes the test f, and the value v is w
pub record NoneOf {A B : Type 0} (f : A → Bool) (xs : List A) (v w : B) : Type 0 where
  pub none : (q : A) → Memᴰ q xs → f q ≡ false
  pub is : v ≡ w

module _ {A B : Type 0} (f : A → Bool) (g : A → B) (d : B) where
  -- what g gives of the first member that passes, or d
  pick : List A → B
  pick [] = d
  pick (x ∷ xs) = elim (f x) [ true ↦ g x | false ↦ pick xs ]

  -- no member passes together with one after it
  abbrev Apart : List A → Type 0
  Apart [] = Unit {0}
  Apart (x ∷ xs) = ((q : A) → Memᴰ q xs → f x ≡ true → f q ≡ true → ⊥) × Apart xs

  abbrev OneOrNone : List A → B → Type 0
  OneOrNone xs v = NoneOf f xs v d ⊎ ((r : A) × Only f xs r v (g r))

  one-or-none : (xs : List A) → Apart xs → OneOrNone xs (pick xs)
  unfolding pick
  one-or-none [] h = inl (record { none = λ q m. absurd (Memᴰ.not-nil m); is = refl })
  one-or-none (x ∷ xs) h = step (f x) refl (one-or-none xs h.1)
    where
      same : f x ≡ true → (q : A) → f q ≡ true → (q ≡ x) ⊎ Memᴰ q xs → q ≡ x
      same p q l (inl e) = e
      same p q l (inr m) = absurd (h.0 q m p l)

      past : f x ≡ false → (r : A) → Only f xs r (pick xs) (g r) → (q : A) → f q ≡ true → (q ≡ x) ⊎ Memᴰ q xs → q ≡ r
      past p r o q l (inl e) = absurd (not-both (f x) (rw e at l) p)
      past p r o q l (inr m) = o.only q m l

      fails : f x ≡ false → NoneOf f xs (pick xs) d → (q : A) → (q ≡ x) ⊎ Memᴰ q xs → f q ≡ false
      fails p o q (inl e) = rw e p
      fails p o q (inr m) = o.none q m

      step : (t : Bool) → f x ≡ t → OneOrNone xs (pick xs) → OneOrNone (x ∷ xs) (elim t [ true ↦ g x | false ↦ pick xs ])
      step true p ih = inr (x, record { member = Memᴰ.head refl; passes = p; only = λ q m l. same p q l (Memᴰ.cases_cons m); is = refl })
      step false p (inl o) = inl (record { none = λ q m. fails p o q (Memᴰ.cases_cons m); is = o.is })
      step false p (inr o) =
          inr (
            o.0,
            record
                { member = Memᴰ.tail o.1.member; passes = o.1.passes; only = λ q m l. past p o.0 o.1 q l (Memᴰ.cases_cons m); is = o.1.is },
          )

  -- a member that passes is the one
  one-is : (xs : List A) (v : B) → OneOrNone xs v → (r : A) → Memᴰ r xs → f r ≡ true → v ≡ g r
  one-is xs v (inl o) r m h = absurd (not-both (f r) h (o.none r m))
  one-is xs v (inr o) r m h = rw (o.1.only r m h) o.1.is

-- ---- the rule of a table, as a test that computes

-- each row starts where the words of the one before have ended, the first at n, or later
abbrev pub apart_from : ℕ → List Row → Bool
apart_from n [] = true
apart_from n (r ∷ rs) = leb n r.first && leb r.first r.last && apart_from (r.last + 4) rs

abbrev pub apart : List Row → Bool
apart rs = apart_from 0 rs

-- the first and the last offset of each row are multiples of 4
abbrev pub whole_words : List Row → Bool
whole_words [] = true
whole_words (r ∷ rs) = eqb (r.first % 4) 0 && eqb (r.last % 4) 0 && whole_words rs

pub rows_apart : (x : View) → apart (rows x) ≡ true
unfolding rows
rows_apart Distributor = refl
rows_apart (Frame v) = refl

pub rows-whole-words : (x : View) → whole_words (rows x) ≡ true
unfolding rows
rows-whole-words Distributor = refl
rows-whole-words (Frame v) = refl

-- ---- what the test gives at each row

record Next (n : ℕ) (r : Row) (rs : List Row) : Type 0 where
  from : n ≤ r.first
  order : r.first ≤ r.last
  rest : apart_from (r.last + 4) rs ≡ true

next : (n : ℕ) (r : Row) (rs : List Row) → apart_from n (r ∷ rs) ≡ true → Next n r rs
next n r rs e =
    let p = both (leb n r.first && leb r.first r.last) (apart_from (r.last + 4) rs) e in
    let q = both (leb n r.first) (leb r.first r.last) p.0 in
    record { from = leb-true n r.first q.0; order = leb-true r.first r.last q.1; rest = p.1 }

starts : (n : ℕ) (rs : List Row) → apart_from n rs ≡ true → (q : Row) → Memᴰ q rs → n ≤ q.first
starts n [] e q m = absurd (Memᴰ.not-nil m)
starts n (r ∷ rs) e q m = step (starts (r.last + 4) rs (next n r rs e).rest q) (Memᴰ.cases_cons m)
  where
    step : (Memᴰ q rs → r.last + 4 ≤ q.first) → (q ≡ r) ⊎ Memᴰ q rs → n ≤ q.first
    step ih (inl p) = rw p (next n r rs e).from
    step ih (inr t) = omega (arith, ih t, (next n r rs e).from, (next n r rs e).order)

-- an offset in a row
pub in-row : (r : Row) (off : ℕ) → in_row r off ≡ true → (r.first ≤ off) × (off < r.last + 4)
unfolding in_row
in-row r off e =
    let p = both (leb r.first off) (ltb off (r.last + 4)) e in
    (leb-true r.first off p.0, ltb-true off (r.last + 4) p.1)

pub row_in : (r : Row) (off : ℕ) → r.first ≤ off → off < r.last + 4 → in_row r off ≡ true
unfolding in_row
row_in r off h l = rw (le-leb r.first off h, lt-ltb off (r.last + 4) l)

-- ---- exactly one row, or none

abbrev pub has_offset : ℕ → Row → Bool
has_offset off r = in_row r off

-- the row's register, and the number of the word at the offset
abbrev pub decoded_in : ℕ → Row → Decoded
decoded_in off r = Some (r.register, ((off - r.first) / 4))

rows-single : (n : ℕ) (rs : List Row) → apart_from n rs ≡ true → (off : ℕ) → Apart (has_offset off) (decoded_in off) None rs
rows-single n [] e off = tt
rows-single n (r ∷ rs) e off =
    let h = (next n r rs e).rest in
    (λ q m p l. omega (arith, in-row r off p, in-row q off l, starts (r.last + 4) rs h q m), rows-single (r.last + 4) rs h off)

decode-picks : (rs : List Row) (off : ℕ) → pick (has_offset off) (decoded_in off) None rs ≡ decode rs off
unfolding decode pick
decode-picks [] off = refl
decode-picks (r ∷ rs) off = ap (λ (d : Decoded). elim (in_row r off) [ true ↦ decoded_in off r | false ↦ d ]) (decode-picks rs off)

-- one row of the table has the offset, and it decodes to the row's register and the number of the word there; or none has it, and it decodes to nothing
abbrev pub OneRow : List Row → ℕ → Type 0
OneRow rs off =
    NoneOf (has_offset off) rs (decode rs off) None ⊎ ((r : Row) × Only (has_offset off) rs r (decode rs off) (decoded_in off r))

-- the general law, of any table whose rows are in order and apart
pub table-one-row : (rs : List Row) → apart rs ≡ true → (off : ℕ) → OneRow rs off
table-one-row rs e off = rw (decode-picks rs off) at (one-or-none (has_offset off) (decoded_in off) None rs (rows-single 0 rs e off))

-- every offset falls in exactly one row of the distributor's table, or of a frame's, or in none
pub offset-one-row : (x : View) (off : ℕ) → OneRow (rows x) off
offset-one-row x off = table-one-row (rows x) (rows_apart x) off

-- ---- what holds of each row holds of what an offset decodes to

abbrev pub each_row : (Row → Bool) → List Row → Bool
each_row f [] = true
each_row f (r ∷ rs) = f r && each_row f rs

-- the row of which the test f holds and by which an offset decodes to word k of register r
pub record DecodedBy (f : Row → Bool) (off : ℕ) (r : Register) (k : ℕ) : Type 0 where
  pub by : Row
  pub holds : f by ≡ true
  pub inside : in_row by off ≡ true
  pub named : by.register ≡ r
  pub number : (off - by.first) / 4 ≡ k

pub decoded-by : (f : Row → Bool) (rs : List Row) → each_row f rs ≡ true → (off : ℕ) (r : Register) (k : ℕ) → decode rs off ≡ Some (r, k) → DecodedBy f off r k
unfolding decode
decoded-by f [] h off r k e = let z : ◌≡◌ {A = ℕ} 0 1 = cc in absurd (omega arith)
decoded-by f (q ∷ rs) h off r k e = step (in_row q off) refl (decoded-by f rs (both (f q) (each_row f rs) h).1 off r k) e
  where
    step : (t : Bool) → in_row q off ≡ t → (decode rs off ≡ Some (r, k) → DecodedBy f off r k)
        → ◌≡◌ {A = Decoded} (elim t [ true ↦ decoded_in off q | false ↦ decode rs off ]) (Some (r, k)) → DecodedBy f off r k
    step true i ih d =
        let w : ◌≡◌ {A = Register × ℕ} (q.register, (off - q.first) / 4) (r, k) = cc in
        record {
          by = q;
          holds = (both (f q) (each_row f rs) h).0;
          inside = i;
          named = ap (λ (x : Register × ℕ). x.0) w;
          number = ap (λ (x : Register × ℕ). x.1) w;
        }
    step false i ih d = ih d

-- the word at a row's last byte is one of the register's words in the view
abbrev words_fit : View → Row → Bool
words_fit x r = ltb ((r.last + 3 - r.first) / 4) (words_of x r.register)

rows_words : (x : View) → each_row (words_fit x) (rows x) ≡ true
unfolding rows words_of banks
rows_words Distributor = refl
rows_words (Frame v) = refl

-- an offset decodes to one of the register's words
pub decode-words : (x : View) (off : ℕ) (r : Register) (k : ℕ) → decode (rows x) off ≡ Some (r, k) → k < words_of x r
decode-words x off r k e =
    let d = decoded-by (words_fit x) (rows x) (rows_words x) off r k e in
    let l = ltb-true ((d.by.last + 3 - d.by.first) / 4) (words_of x d.by.register) d.holds in
    let m : k < words_of x d.by.register = omega (arith, in-row d.by off d.inside) in
    rw d.named at m

-- a frame has no register of as many words in the distributor as ICFGR: it is writable in the distributor alone
abbrev no_config : Row → Bool
no_config r = not (eqb (words_of Distributor r.register) (words_of Distributor Config))

frame-no-config : each_row no_config (rows (Frame 0)) ≡ true
unfolding rows words_of banks
frame-no-config = refl

pub config-view : (x : View) (off k : ℕ) → decode (rows x) off ≡ Some (Config, k) → x ≡ Distributor
unfolding rows
config-view Distributor off k e = refl
config-view (Frame v) off k e =
    let d = decoded-by no_config (rows (Frame 0)) frame-no-config off Config k e in
    absurd (not-both (no_config d.by) d.holds (rw d.named (unfold words_of banks in refl)))

-- ---- the register at an offset, from the row

pub row_at : (rs : List Row) → apart rs ≡ true → (r : Row) → Memᴰ r rs → (off : ℕ) → in_row r off ≡ true → decode rs off ≡ decoded_in off r
row_at rs e r m off h = one-is (has_offset off) (decoded_in off) None rs (decode rs off) (table-one-row rs e off) r m h

-- the row at place k of a table
abbrev pub row_of : List Row → ℕ → Row
row_of rs k = get_or rs k (row 0 0 Control)

row-member : (rs : List Row) (k : ℕ) → k < length rs → Memᴰ (row_of rs k) rs
row-member [] k h = absurd (omega arith)
row-member (r ∷ rs) zero h = Memᴰ.head refl
row-member (r ∷ rs) (suc k) h = Memᴰ.tail (row-member rs k (omega arith))

-- word w of the row at place k
pub word_at : (x : View) (k w off : ℕ) → k < length (rows x) → (row_of (rows x) k).first + 4 * w ≤ off → off < (row_of (rows x) k).first + 4 * w + 4 → off < (row_of (rows x) k).last + 4
    → decode (rows x) off ≡ Some ((row_of (rows x) k).register, w)
word_at x k w off h l u t =
    let r = row_of (rows x) k in
    let n : (off - r.first) / 4 ≡ w = omega arith in
    rw n at (row_at (rows x) (rows_apart x) r (row-member (rows x) k h) off (row_in r off (omega arith) t))

-- the same, at the word's own offset
pub word_of : (x : View) (k w : ℕ) → k < length (rows x) → (row_of (rows x) k).first + 4 * w ≤ (row_of (rows x) k).last
    → decode (rows x) ((row_of (rows x) k).first + 4 * w) ≡ Some ((row_of (rows x) k).register, w)
word_of x k w h t = word_at x k w ((row_of (rows x) k).first + 4 * w) h (omega arith) (omega arith) (omega arith)

-- the distributor's registers of more than one word
pub decode-group : (w : ℕ) → w < 32 → decode (rows Distributor) (0x80 + 4 * w) ≡ Some ((Bits Group), w)
unfolding rows
decode-group w h = word_of Distributor 4 w (omega arith) (omega arith)

pub decode-set-enable : (w : ℕ) → w < 32 → decode (rows Distributor) (0x100 + 4 * w) ≡ Some ((Bits SetEnable), w)
unfolding rows
decode-set-enable w h = word_of Distributor 5 w (omega arith) (omega arith)

pub decode-set-pending : (w : ℕ) → w < 32 → decode (rows Distributor) (0x200 + 4 * w) ≡ Some ((Bits SetPending), w)
unfolding rows
decode-set-pending w h = word_of Distributor 7 w (omega arith) (omega arith)

pub decode-set-active : (w : ℕ) → w < 32 → decode (rows Distributor) (0x300 + 4 * w) ≡ Some ((Bits SetActive), w)
unfolding rows
decode-set-active w h = word_of Distributor 9 w (omega arith) (omega arith)

pub decode-priority : (w : ℕ) → w < 256 → decode (rows Distributor) (0x400 + 4 * w) ≡ Some (Priority, w)
unfolding rows
decode-priority w h = word_of Distributor 11 w (omega arith) (omega arith)

pub decode-config : (w : ℕ) → w < 64 → decode (rows Distributor) (0xc00 + 4 * w) ≡ Some (Config, w)
unfolding rows
decode-config w h = word_of Distributor 12 w (omega arith) (omega arith)

pub decode-route : (w : ℕ) → w < 1976 → decode (rows Distributor) (0x6100 + 4 * w) ≡ Some (Route, w)
unfolding rows
decode-route w h = word_of Distributor 13 w (omega arith) (omega arith)

-- and its others
pub decode-control : decode (rows Distributor) 0x0 ≡ Some (Control, 0)
unfolding rows decode in_row
decode-control = refl

pub decode-status : decode (rows Distributor) 0x10 ≡ Some (Status, 0)
unfolding rows decode in_row
decode-status = refl

-- a frame's
pub decode-frame-priority : (v w : ℕ) → w < 8 → decode (rows (Frame v)) (0x10400 + 4 * w) ≡ Some (Priority, w)
unfolding rows
decode-frame-priority v w h = word_of (Frame v) 13 w (omega arith) (omega arith)

pub decode-frame-status : (v : ℕ) → decode (rows (Frame v)) 0x10 ≡ Some (Status, 0)
unfolding rows decode in_row
decode-frame-status v = refl

pub decode-frame-group : (v : ℕ) → decode (rows (Frame v)) 0x10080 ≡ Some ((Bits Group), 0)
unfolding rows decode in_row
decode-frame-group v = refl

pub decode-frame-set-enable : (v : ℕ) → decode (rows (Frame v)) 0x10100 ≡ Some ((Bits SetEnable), 0)
unfolding rows decode in_row
decode-frame-set-enable v = refl

pub decode-frame-set-pending : (v : ℕ) → decode (rows (Frame v)) 0x10200 ≡ Some ((Bits SetPending), 0)
unfolding rows decode in_row
decode-frame-set-pending v = refl

pub decode-frame-set-active : (v : ℕ) → decode (rows (Frame v)) 0x10300 ≡ Some ((Bits SetActive), 0)
unfolding rows decode in_row
decode-frame-set-active v = refl

-- ---- the encodings of the system registers

abbrev pub has_encoding : ℕ → SystemRow → Bool
has_encoding e r = eqb e r.encoding

-- no row has the encoding e
abbrev pub lacks : ℕ → List SystemRow → Bool
lacks e [] = true
lacks e (r ∷ rs) = not (has_encoding e r) && lacks e rs

-- no encoding stands twice
abbrev pub distinct : List SystemRow → Bool
distinct [] = true
distinct (r ∷ rs) = lacks r.encoding rs && distinct rs

pub encodings-distinct : distinct system_rows ≡ true
encodings-distinct = refl

lacking : (e : ℕ) (rs : List SystemRow) → lacks e rs ≡ true → (q : SystemRow) → Memᴰ q rs → e ≡ q.encoding → ⊥
lacking e [] h q m p = Memᴰ.not-nil m
lacking e (r ∷ rs) h q m p = step (lacking e rs (both (not (has_encoding e r)) (lacks e rs) h).1 q) (Memᴰ.cases_cons m)
  where
    step : (Memᴰ q rs → e ≡ q.encoding → ⊥) → (q ≡ r) ⊎ Memᴰ q rs → ⊥
    step ih (inl l) = eqb-false e r.encoding (not-true (has_encoding e r) (both (not (has_encoding e r)) (lacks e rs) h).0) (rw l at p)
    step ih (inr t) = ih t p

encodings-single : (rs : List SystemRow) → distinct rs ≡ true → (e : ℕ) → Apart (has_encoding e) (λ r. r.register) Unnamed rs
encodings-single [] d e = tt
encodings-single (r ∷ rs) d e =
    let h = both (lacks r.encoding rs) (distinct rs) d in
    (λ q m p l. lacking r.encoding rs h.0 q m (sym (eqb-true e r.encoding p) ∙ eqb-true e q.encoding l), encodings-single rs h.1 e)

system-picks : (rs : List SystemRow) (e : ℕ) → pick (has_encoding e) (λ r. r.register) Unnamed rs ≡ system_in rs e
unfolding system_in pick
system-picks [] e = refl
system-picks (r ∷ rs) e = ap (λ (d : SystemRegister). elim (has_encoding e r) [ true ↦ r.register | false ↦ d ]) (system-picks rs e)

-- one row of the table has the encoding, which names its register; or none has it, and it names nothing
abbrev pub OneEncoding : List SystemRow → ℕ → Type 0
OneEncoding rs e =
    NoneOf (has_encoding e) rs (system_in rs e) Unnamed ⊎ ((r : SystemRow) × Only (has_encoding e) rs r (system_in rs e) r.register)

-- the general law, of any table with no encoding twice
pub table-one-encoding : (rs : List SystemRow) → distinct rs ≡ true → (e : ℕ) → OneEncoding rs e
table-one-encoding rs d e = rw (system-picks rs e) at (one-or-none (has_encoding e) (λ r. r.register) Unnamed rs (encodings-single rs d e))

-- every encoding names the register of the one row that has it, or nothing
pub encoding-one-register : (e : ℕ) → OneEncoding system_rows e
encoding-one-register e = table-one-encoding system_rows encodings-distinct e

pub register-at : (r : SystemRow) → Memᴰ r system_rows → system r.encoding ≡ r.register
unfolding system
register-at r m =
    one-is (has_encoding r.encoding) (λ q. q.register) Unnamed system_rows (system_in system_rows r.encoding) (encoding-one-register r.encoding) r m
    (eq-eqb r.encoding r.encoding refl)

-- a test that holds of each register of a table, and where none is named, holds of what any encoding names
abbrev pub each_register : (SystemRegister → Bool) → List SystemRow → Bool
each_register f [] = f Unnamed
each_register f (r ∷ rs) = f r.register && each_register f rs

pub register-passes : (f : SystemRegister → Bool) (rs : List SystemRow) → each_register f rs ≡ true → (e : ℕ) → f (system_in rs e) ≡ true
unfolding system_in
register-passes f [] h e = h
register-passes f (r ∷ rs) h e = step (eqb e r.encoding) (both (f r.register) (each_register f rs) h).0 (register-passes f rs (both (f r.register) (each_register f rs) h).1 e)
  where
    step : (t : Bool) → f r.register ≡ true → f (system_in rs e) ≡ true → f (elim t [ true ↦ r.register | false ↦ system_in rs e ]) ≡ true
    step true p ih = p
    step false p ih = ih
