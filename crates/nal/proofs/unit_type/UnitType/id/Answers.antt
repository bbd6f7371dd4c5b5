use mathlib.Core.Path.{sym, ap}
use Rattle.nal.specs.UnitType.{id_of}
use Rattle.nal.proofs.unit_type.UnitType.id.Goals as goal

pub returns-in-Unspecified : goal.returns-in-Unspecified
returns-in-Unspecified c = sym (ap id_of c.in-Unspecified.is)

pub returns-in-SliceLayerWithoutPartitioningNonIdr : goal.returns-in-SliceLayerWithoutPartitioningNonIdr
returns-in-SliceLayerWithoutPartitioningNonIdr c = sym (ap id_of c.in-SliceLayerWithoutPartitioningNonIdr.is)

pub returns-in-SliceDataPartitionALayer : goal.returns-in-SliceDataPartitionALayer
returns-in-SliceDataPartitionALayer c = sym (ap id_of c.in-SliceDataPartitionALayer.is)

pub returns-in-SliceDataPartitionBLayer : goal.returns-in-SliceDataPartitionBLayer
returns-in-SliceDataPartitionBLayer c = sym (ap id_of c.in-SliceDataPartitionBLayer.is)

pub returns-in-SliceDataPartitionCLayer : goal.returns-in-SliceDataPartitionCLayer
returns-in-SliceDataPartitionCLayer c = sym (ap id_of c.in-SliceDataPartitionCLayer.is)

pub returns-in-SliceLayerWithoutPartitioningIdr : goal.returns-in-SliceLayerWithoutPartitioningIdr
returns-in-SliceLayerWithoutPartitioningIdr c = sym (ap id_of c.in-SliceLayerWithoutPartitioningIdr.is)

pub returns-in-SEI : goal.returns-in-SEI
returns-in-SEI c = sym (ap id_of c.in-SEI.is)

pub returns-in-SeqParameterSet : goal.returns-in-SeqParameterSet
returns-in-SeqParameterSet c = sym (ap id_of c.in-SeqParameterSet.is)

pub returns-in-PicParameterSet : goal.returns-in-PicParameterSet
returns-in-PicParameterSet c = sym (ap id_of c.in-PicParameterSet.is)

pub returns-in-AccessUnitDelimiter : goal.returns-in-AccessUnitDelimiter
returns-in-AccessUnitDelimiter c = sym (ap id_of c.in-AccessUnitDelimiter.is)

pub returns-in-EndOfSeq : goal.returns-in-EndOfSeq
returns-in-EndOfSeq c = sym (ap id_of c.in-EndOfSeq.is)

pub returns-in-EndOfStream : goal.returns-in-EndOfStream
returns-in-EndOfStream c = sym (ap id_of c.in-EndOfStream.is)

pub returns-in-FillerData : goal.returns-in-FillerData
returns-in-FillerData c = sym (ap id_of c.in-FillerData.is)

pub returns-in-SeqParameterSetExtension : goal.returns-in-SeqParameterSetExtension
returns-in-SeqParameterSetExtension c = sym (ap id_of c.in-SeqParameterSetExtension.is)

pub returns-in-PrefixNALUnit : goal.returns-in-PrefixNALUnit
returns-in-PrefixNALUnit c = sym (ap id_of c.in-PrefixNALUnit.is)

pub returns-in-SubsetSeqParameterSet : goal.returns-in-SubsetSeqParameterSet
returns-in-SubsetSeqParameterSet c = sym (ap id_of c.in-SubsetSeqParameterSet.is)

pub returns-in-DepthParameterSet : goal.returns-in-DepthParameterSet
returns-in-DepthParameterSet c = sym (ap id_of c.in-DepthParameterSet.is)

pub returns-in-SliceLayerWithoutPartitioningAux : goal.returns-in-SliceLayerWithoutPartitioningAux
returns-in-SliceLayerWithoutPartitioningAux c = sym (ap id_of c.in-SliceLayerWithoutPartitioningAux.is)

pub returns-in-SliceExtension : goal.returns-in-SliceExtension
returns-in-SliceExtension c = sym (ap id_of c.in-SliceExtension.is)

pub returns-in-SliceExtensionViewComponent : goal.returns-in-SliceExtensionViewComponent
returns-in-SliceExtensionViewComponent c = sym (ap id_of c.in-SliceExtensionViewComponent.is)

pub returns-in-Reserved : goal.returns-in-Reserved
returns-in-Reserved c = sym (ap id_of c.in-Reserved.is)
