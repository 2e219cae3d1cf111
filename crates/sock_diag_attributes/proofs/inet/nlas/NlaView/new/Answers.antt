use Rattle.netlink_core.specs.Walk.{buffered_attribute}
use Rattle.sock_diag_attributes.specs.InetAttributes.{inet_attribute_set}
use Rattle.sock_diag_attributes.proofs.AcceptedValues.{accepted_value}
use Rattle.sock_diag_attributes.proofs.inet.nlas.NlaView.new.Goals as goal

pub accepted_record-requires : goal.accepted_record-requires
accepted_record-requires c =
    accepted_value inet_attribute_set (buffered_attribute c.args.nla.now) _ _ _ c.requires
    c.kind.ensures c.in-1.is c.value-value.ensures

pub accepted_record-requires-in-2 : goal.accepted_record-requires-in-2
accepted_record-requires-in-2 c =
    accepted_value inet_attribute_set (buffered_attribute c.args.nla.now) _ _ _ c.requires
    c.kind.ensures c.in-2.is c.value-value.ensures

pub accepted_str-requires : goal.accepted_str-requires
accepted_str-requires c =
    accepted_value inet_attribute_set (buffered_attribute c.args.nla.now) _ _ _ c.requires
    c.kind.ensures c.in-4.is c.value-value.ensures

pub accepted_u8-requires : goal.accepted_u8-requires
accepted_u8-requires c =
    accepted_value inet_attribute_set (buffered_attribute c.args.nla.now) _ _ _ c.requires
    c.kind.ensures c.in-5.is c.value-value.ensures

pub accepted_u8-requires-in-6 : goal.accepted_u8-requires-in-6
accepted_u8-requires-in-6 c =
    accepted_value inet_attribute_set (buffered_attribute c.args.nla.now) _ _ _ c.requires
    c.kind.ensures c.in-6.is c.value-value.ensures

pub accepted_record-requires-in-7 : goal.accepted_record-requires-in-7
accepted_record-requires-in-7 c =
    accepted_value inet_attribute_set (buffered_attribute c.args.nla.now) _ _ _ c.requires
    c.kind.ensures c.in-7.is c.value-value.ensures

pub accepted_u8-requires-in-8 : goal.accepted_u8-requires-in-8
accepted_u8-requires-in-8 c =
    accepted_value inet_attribute_set (buffered_attribute c.args.nla.now) _ _ _ c.requires
    c.kind.ensures c.in-8.is c.value-value.ensures

pub accepted_u8-requires-in-10 : goal.accepted_u8-requires-in-10
accepted_u8-requires-in-10 c =
    accepted_value inet_attribute_set (buffered_attribute c.args.nla.now) _ _ _ c.requires
    c.kind.ensures c.in-10.is c.value-value.ensures

pub accepted_u32-requires : goal.accepted_u32-requires
accepted_u32-requires c =
    accepted_value inet_attribute_set (buffered_attribute c.args.nla.now) _ _ _ c.requires
    c.kind.ensures c.in-15.is c.value-value.ensures

pub accepted_u32-requires-in-17 : goal.accepted_u32-requires-in-17
accepted_u32-requires-in-17 c =
    accepted_value inet_attribute_set (buffered_attribute c.args.nla.now) _ _ _ c.requires
    c.kind.ensures c.in-17.is c.value-value.ensures
