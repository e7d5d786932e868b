-- What a CRL is (RFC 5280, 5.1 to 5.3, and this project's profile), apart from how it is read: the elements that
-- stand in it, in their order, each OPTIONAL one there or not.
use Rattle.std.specs.Prelude.{◌≡◌, ◌≢◌, ℕ, ℤ, List, [], ◌∷◌, ◌++◌, Bool, true, false, ◌⊎◌, Option, Some, None, IfSome, MatchBool}
use Rattle.der_core.specs.Elements.{Der}
use Rattle.der_core.specs.Grammar.{IsElement, AreElements, AreEach, one_of}
use Rattle.der_core.specs.Walk.{is_time_tag}
use Rattle.der_core.specs.Times.{time_of}
use Rattle.der_core.specs.Values.{truth, boolean_of}
use Rattle.crl_core.specs.Extensions.{Ext, CrlExt, is_id_ce, some_true}
use Rattle.crl_core.specs.Form.{Entry, CrlForm}

-- an element of this tag
abbrev pub tagged : ℕ → List ℕ → Der
tagged tag contents = record { tag = tag; contents = contents }

-- a BOOLEAN, or none, which is FALSE
abbrev pub IsFlag : Bool → Option Der → Type 0
IsFlag critical None = critical ≡ false
IsFlag critical (Some e) = boolean_of e ≡ Some critical

-- an OID, a BOOLEAN that there may be, and an OCTET STRING
pub record IsExtension (x : Ext) (e : Der) : Type 0 where
  pub tag : e.tag ≡ 0x30
  pub flag : Option Der
  pub is_flag : IsFlag x.critical flag
  pub elements : AreElements (tagged 0x06 x.oid ∷ (one_of flag ++ tagged 0x04 x.value ∷ [])) e.contents

-- a SEQUENCE OF that there may be; without it the list is empty
abbrev pub HoldsEach : {A : Type 0} → (A → Der → Type 0) → List A → Option Der → Type 0
HoldsEach R xs None = xs ≡ []
HoldsEach R xs (Some e) = (e.tag ≡ 0x30) × AreEach R xs e.contents

-- a serial of at least one octet, a date, whose contents aren't read, and extensions that there may be
pub record IsEntry (x : Entry) (e : Der) : Type 0 where
  pub tag : e.tag ≡ 0x30
  pub some : x.serial ≢ []
  pub date : Der
  pub is_date : is_time_tag date ≡ true
  pub list : Option Der
  pub is_list : HoldsEach IsExtension x.extensions list
  pub elements : AreElements (tagged 0x02 x.serial ∷ (date ∷ one_of list)) e.contents

-- the flag indirectCRL, 00 or ff, or another element, which isn't read
abbrev pub IsPointFlag : Bool → Der → Type 0
IsPointFlag flag e = ((e.tag ≡ 0x84) × (truth e.contents ≡ Some flag)) ⊎ ((e.tag ≢ 0x84) × (flag ≡ false))

-- one SEQUENCE of elements, some of which say that the CRL is indirect, or none
pub record IsPoint (indirect : Bool) (value : List ℕ) : Type 0 where
  pub contents : List ℕ
  pub is_sequence : IsElement (tagged 0x30 contents) value
  pub flags : List Bool
  pub are_flags : AreEach IsPointFlag flags contents
  pub some : indirect ≡ some_true flags

-- an extension, whose value is read where it is an issuing distribution point
pub record IsCrlExtension (x : CrlExt) (e : Der) : Type 0 where
  pub general : IsExtension x.general e
  pub point : MatchBool (is_id_ce 0x1c x.general.oid) (IsPoint x.indirect x.general.value) (x.indirect ≡ false)

-- a time that there may be
abbrev pub IsTimeIf : Option ℤ → Option Der → Type 0
IsTimeIf moment None = moment ≡ None
IsTimeIf moment (Some e) = (n : ℤ) × (time_of e ≡ Some n) × (moment ≡ Some n)

-- an explicit tag around the list of the CRL's extensions, if that is there
abbrev pub HoldsExtensions : List CrlExt → Option Der → Type 0
HoldsExtensions xs None = xs ≡ []
HoldsExtensions xs (Some e) =
    (e.tag ≡ 0xa0) × ((contents : List ℕ) × IsElement (tagged 0x30 contents) e.contents
    × AreEach IsCrlExtension xs contents)

pub record IsTbsCertList (form : CrlForm) (contents : List ℕ) : Type 0 where
  pub version : Option Der
  pub signature : Der
  pub issuer : Der
  pub this : Der
  pub next : Option Der
  pub revoked : Option Der
  pub last : Option Der
  pub is_version : IfSome version (λ e. (e.tag ≡ 0x02) × (e.contents ≡ 0x01 ∷ []))
  pub is_signature : signature.tag ≡ 0x30
  pub is_issuer : issuer.tag ≡ 0x30
  pub is_this : time_of this ≡ Some form.this_update
  pub is_next : IsTimeIf form.next_update next
  pub is_revoked : HoldsEach IsEntry form.entries revoked
  pub is_last : HoldsExtensions form.extensions last
  pub elements : AreElements (one_of version ++ signature ∷ (issuer ∷ (this ∷ (one_of next ++ (one_of revoked ++ one_of last))))) contents

-- The bytes are a CRL that says this: one SEQUENCE and nothing behind it, of a TBSCertList, an algorithm and a
-- signature, of which the last two aren't read.
pub record IsCrl (form : CrlForm) (bytes : List ℕ) : Type 0 where
  pub list : List ℕ
  pub is_list : IsElement (tagged 0x30 list) bytes
  pub contents : List ℕ
  pub algorithm : Der
  pub signature : Der
  pub is_algorithm : algorithm.tag ≡ 0x30
  pub is_signature : signature.tag ≡ 0x03
  pub is_contents : IsTbsCertList form contents
  pub elements : AreElements (tagged 0x30 contents ∷ (algorithm ∷ (signature ∷ []))) list
