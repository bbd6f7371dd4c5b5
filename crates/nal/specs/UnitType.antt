-- The types of a NAL unit, in the order of H.264, table 7-1.
use Rattle.std.specs.Prelude.{ℕ, List, [], ◌∷◌, ltb, get_or}
use Rattle.bits.specs.Refusals.{pick}
use Rattle.nal.specs.declared.unit_type.UnitType.{UnitType}
use Rattle.nal.specs.declared.unit_type.UnitTypeError.{UnitTypeError}
use Rattle.std.specs.Prelude.{Result, Ok, Err}

-- the types with nal_unit_type 0, 1, 2, .., 31
abbrev pub types : List UnitType
types =
    UnitType.Unspecified 0
    ∷ UnitType.SliceLayerWithoutPartitioningNonIdr
    ∷ UnitType.SliceDataPartitionALayer
    ∷ UnitType.SliceDataPartitionBLayer
    ∷ UnitType.SliceDataPartitionCLayer
    ∷ UnitType.SliceLayerWithoutPartitioningIdr
    ∷ UnitType.SEI
    ∷ UnitType.SeqParameterSet
    ∷ UnitType.PicParameterSet
    ∷ UnitType.AccessUnitDelimiter
    ∷ UnitType.EndOfSeq
    ∷ UnitType.EndOfStream
    ∷ UnitType.FillerData
    ∷ UnitType.SeqParameterSetExtension
    ∷ UnitType.PrefixNALUnit
    ∷ UnitType.SubsetSeqParameterSet
    ∷ UnitType.DepthParameterSet
    ∷ UnitType.Reserved 17
    ∷ UnitType.Reserved 18
    ∷ UnitType.SliceLayerWithoutPartitioningAux
    ∷ UnitType.SliceExtension
    ∷ UnitType.SliceExtensionViewComponent
    ∷ UnitType.Reserved 22
    ∷ UnitType.Reserved 23
    ∷ UnitType.Unspecified 24
    ∷ UnitType.Unspecified 25
    ∷ UnitType.Unspecified 26
    ∷ UnitType.Unspecified 27
    ∷ UnitType.Unspecified 28
    ∷ UnitType.Unspecified 29
    ∷ UnitType.Unspecified 30
    ∷ UnitType.Unspecified 31
    ∷ []

-- the type of an id up to 31; no field of five bits reaches past the table
unfoldable pub type_of : ℕ → UnitType
type_of id = get_or types id (UnitType.Unspecified 0)

unfoldable pub for_id : ℕ → Result UnitType UnitTypeError
for_id id = pick (ltb id 32) (Ok (type_of id)) (Err (UnitTypeError.ValueOutOfRange id))

-- the id of a type, by the same table
abbrev pub id_of : UnitType → ℕ
id_of (UnitType.Unspecified id) = id
id_of UnitType.SliceLayerWithoutPartitioningNonIdr = 1
id_of UnitType.SliceDataPartitionALayer = 2
id_of UnitType.SliceDataPartitionBLayer = 3
id_of UnitType.SliceDataPartitionCLayer = 4
id_of UnitType.SliceLayerWithoutPartitioningIdr = 5
id_of UnitType.SEI = 6
id_of UnitType.SeqParameterSet = 7
id_of UnitType.PicParameterSet = 8
id_of UnitType.AccessUnitDelimiter = 9
id_of UnitType.EndOfSeq = 10
id_of UnitType.EndOfStream = 11
id_of UnitType.FillerData = 12
id_of UnitType.SeqParameterSetExtension = 13
id_of UnitType.PrefixNALUnit = 14
id_of UnitType.SubsetSeqParameterSet = 15
id_of UnitType.DepthParameterSet = 16
id_of UnitType.SliceLayerWithoutPartitioningAux = 19
id_of UnitType.SliceExtension = 20
id_of UnitType.SliceExtensionViewComponent = 21
id_of (UnitType.Reserved id) = id
