-- Results of private functions of the view.
use Rattle.std.specs.Prelude.{Option, Some, None}
use Rattle.sock_diag_filters.specs.declared.request.RequestAttribute.{RequestAttribute}
use Rattle.sock_diag_filters.specs.declared.request.RequestAttribute.TheVariants.{Program, Protocol}
use Rattle.sock_diag_filters.specs.declared.view.Found.{Found}
use Rattle.sock_diag_filters.specs.InetRequests.{RequestContent, other_content}
use Rattle.sock_diag_filters.specs.InetRequests.{request_attribute_content}

-- `optional_request_content attribute`: the content of a parsed attribute. `None` is an attribute
-- that is neither a program nor a protocol.
abbrev pub optional_request_content : Option RequestAttribute → RequestContent
optional_request_content None = other_content
optional_request_content (Some a) = request_attribute_content a

-- `found_attributes_after found attribute`: the last program and the last protocol after one more
-- attribute, if `found` are those before it. An attribute of another type (`None`) changes nothing.
abbrev pub found_attributes_after : Found → Option RequestAttribute → Found
found_attributes_after found None = found
found_attributes_after found (Some (Program program)) = record found { program = Some program }
found_attributes_after found (Some (Protocol protocol)) = record found { protocol = Some protocol }
